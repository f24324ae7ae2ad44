-- A decision by the refusal that was found, or none.
use Rattle.std.specs.Prelude.{ℕ, Bool, List, Option, Some, None}
use Rattle.fc_base.specs.declared.decision.Decision.{Decision}
use Rattle.fc_base.specs.declared.fault.Refusal.{Refusal}
use Rattle.fc_base.specs.declared.request.Reply.{Reply}
use Rattle.fc_base.specs.declared.request.Reply.TheVariants.{Refused}
use Rattle.fc_books.specs.Books.{Books, Deed, nothing}
use Rattle.fc_books.specs.Deciding.{with_work}

-- Refused, or done with this reply.
abbrev pub answered_by : (ℕ → List Bool) → Books → Option Refusal → Reply → Deed → Decision
answered_by restarts b (Some refusal) reply deed = with_work restarts b (Refused refusal) nothing
answered_by restarts b None reply deed = with_work restarts b reply deed
