-- Behind an error no step may be made.
use Rattle.std.proofs.Common.{refl, sym, ◌∙◌}
use Rattle.fc_noted.proofs.MeteringNoted.{same_calls}
use Rattle.fc_noted.proofs.Stepping.{step_ended}
use Rattle.fc_noted.proofs.noted.Noted.make_step.Goals as goal

pub returns-then-is_err-clause-made : goal.returns-then-is_err-clause-made
returns-then-is_err-clause-made g c =
    step_ended g.M.MetaDisk.seen g.M.MetaDisk.may_leave g.M.MetaDisk.moment g.M.MetaDisk.left_since g.M.MetaDisk.calls c.args.self.now c.step-made.new.self c.args.history.now c.step-made.new.history
    c.step-made.result (sym c.is_err.ensures.value ∙ c.if-is_err.true) c.step-made.ensures.made

pub returns-then-is_err-clause-counted : goal.returns-then-is_err-clause-counted
returns-then-is_err-clause-counted g c =
    same_calls g.M.MetaDisk.seen g.M.MetaDisk.fault_count g.M.MetaDisk.calls c.step-made.result c.step-made.result c.args.self.now c.args.self.now c.step-made.new.self _ refl refl refl refl (λ P ok. ok) (λ told. told) (λ told. told) c.step-made.ensures.counted
