-- A start by the loop of restores that it would close, or none.
use Rattle.std.specs.Prelude.{ℕ, Bool, List, Option, Some, None}
use Rattle.fc_base.specs.declared.decision.Decision.{Decision}
use Rattle.fc_base.specs.declared.fault.Refusal.TheVariants.{RestoreLoop}
use Rattle.fc_base.specs.declared.ids.VolId.{VolId}
use Rattle.fc_base.specs.declared.request.Reply.TheVariants.{Done, Refused}
use Rattle.fc_books.specs.Books.{Books, Deed, nothing}
use Rattle.fc_books.specs.Deciding.{with_work}

abbrev pub looped : (ℕ → List Bool) → Books → Option (List VolId) → Deed → Decision
looped restarts b (Some volumes) deed = with_work restarts b (Refused (RestoreLoop volumes)) nothing
looped restarts b None deed = with_work restarts b Done deed
