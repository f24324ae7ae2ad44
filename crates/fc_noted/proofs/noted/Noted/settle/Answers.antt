-- As a store settles.
use Rattle.std.proofs.Common.{refl}
use Rattle.fc_stands.proofs.CommandPhases.{settling_can, settling_done}
use Rattle.fc_noted.proofs.CallsMade.{wanted_alone}
use Rattle.fc_noted.proofs.noted.Noted.settle.Goals as goal

pub reserve_all-requires : goal.reserve_all-requires
reserve_all-requires g c = record { can = settling_can c.args.self.now.store c.in_ok-settling.settling c.requires.can c.in_ok-settling.ensures }

pub returns-clause-settled : goal.returns-clause-settled
returns-clause-settled g c = λ decisions w few stands. (
  c.in_ok-settling.ensures decisions w stands,
  (settling_done c.args.self.now.store c.reserve_all.new.self c.apply_all.new.self c.in_ok-settling.settling c.in_ok-settling.settling.effects refl c.in_ok-settling.ensures c.reserve_all.ensures.reserved
      c.apply_all.ensures.done decisions w few stands).1,
)

-- for want of memory alone it doesn't

pub returns-in_err-settling-clause-not_disk : goal.returns-in_err-settling-clause-not_disk
returns-in_err-settling-clause-not_disk g c = wanted_alone c.from_residual.result (λ stop. ⊥) c.from_residual.ensures.1

pub returns-in_err-reserve_all-clause-not_disk : goal.returns-in_err-reserve_all-clause-not_disk
returns-in_err-reserve_all-clause-not_disk g c = wanted_alone c.from_residual-in_err-reserve_all.result (λ stop. ⊥) c.from_residual-in_err-reserve_all.ensures.1
