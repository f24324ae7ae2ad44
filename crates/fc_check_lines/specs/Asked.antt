-- Which entry may come next, by the name of its actor: a printed history numbers actors in its own way.
use Rattle.std.specs.Prelude.{◌≡◌, ℕ, List, Some}
use Rattle.fc_base.specs.declared.request.Request.{Request}
use Rattle.fc_base.specs.declared.size.GrainSize.{GrainSize}
use Rattle.fc_entry.specs.HistoryState.{number_of_actor, place_of_name}
use Rattle.fc_entry.specs.declared.entry.Entry.{Entry}
use Rattle.fc_legal.specs.Agenda.{Agenda, Asks}
use Rattle.fc_legal.specs.Whole.{Whole}

-- The actor with this name may ask this next.
pub record IsAskedBy (grain : GrainSize) (a : Agenda) (w : Whole) (name : List ℕ) (request : Request) : Type 0 where
  pub actor : ℕ
  pub place : place_of_name w.actors name ≡ Some actor
  pub asks : Asks grain a w (actor, request)

-- The entry as one of the actor with this name, where actors have these names.
abbrev pub entry_by : List (List ℕ) → List ℕ → Entry → Entry
entry_by names name entry = record entry { actor = number_of_actor names name }
