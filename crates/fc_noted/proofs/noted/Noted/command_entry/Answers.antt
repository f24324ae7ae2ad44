-- The entry of what was decided leads on to what it left.
use Rattle.std.proofs.Common.{Err, Ok, refl}
use Rattle.fc_noted.proofs.MeteringNoted.{same_calls}
use Rattle.fc_noted.proofs.CallsMade.{failed_as, no_error}
use Rattle.fc_noted.proofs.noted.Noted.command_entry.Goals as goal

pub returns-in-Ok-clause-leads : goal.returns-in-Ok-clause-leads
returns-in-Ok-clause-leads g c = c.in-Ok.ensures.leads c.decided_entry.result c.decided_entry.ensures.entry

pub returns-in-Ok-clause-counted : goal.returns-in-Ok-clause-counted
returns-in-Ok-clause-counted g c =
    let new = c.carry_out.new.self in
    same_calls g.M.MetaDisk.seen g.M.MetaDisk.fault_count g.M.MetaDisk.calls (Ok (c.in-Ok.decision, c.in-Ok.joined)) (Ok c.decided_entry.result) c.args.self.now c.args.self.now new new refl refl refl refl (λ P p. p) (λ e. absurd (no_error c.decided_entry.result e)) (λ e. absurd (no_error c.decided_entry.result e)) c.in-Ok.ensures.counted

pub returns-in-Err-clause-counted : goal.returns-in-Err-clause-counted
returns-in-Err-clause-counted g c =
    let new = c.carry_out.new.self in
    same_calls g.M.MetaDisk.seen g.M.MetaDisk.fault_count g.M.MetaDisk.calls (Err c.in-Err.stop) (Err c.in-Err.stop) c.args.self.now c.args.self.now new new refl refl refl refl (λ P p. p) (failed_as c.in-Err.stop) (failed_as c.in-Err.stop) c.in-Err.ensures.counted

pub returns-in-Err-clause-into : goal.returns-in-Err-clause-into
returns-in-Err-clause-into g c = c.in-Err.ensures.into
