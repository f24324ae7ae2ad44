-- The line of a session stands there, or goes wrong.
use Rattle.std.proofs.Common.{Some, inr, refl, arith}
use Rattle.fc_view.proofs.view.seen_at_session.Goals as goal

pub overflow_add-result : goal.overflow_add-result
overflow_add-result c = omega (arith, c.in-Err.ensures.malformed.within, c.requires)

pub returns-in-Ok : goal.returns-in-Ok
returns-in-Ok c = λ header history all. (all, Some c.in-Ok.field-0.now, c.in-Ok.ensures.behind)

pub returns-in-Err : goal.returns-in-Err
returns-in-Err c = λ header history all. record { count = c.in-Err.stopped; stopped_is = refl; stops = inr c.in-Err.ensures.malformed }
