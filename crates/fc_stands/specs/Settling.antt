-- What the two phases of a command leave: a settling, and what is decided after it.
use Rattle.std.specs.Prelude.{◌≡◌, ℕ, ◌+◌, ◌*◌, ◌≤◌, ◌++◌, List, Option, Result, Ok, Err}
use Rattle.fc_base.specs.declared.command.Command.{Command}
use Rattle.fc_base.specs.declared.decision.Decision.{Decision}
use Rattle.fc_base.specs.declared.ids.VolId.{VolId}
use Rattle.fc_base.specs.declared.outcome.NoMemory.{NoMemory}
use Rattle.fc_base.specs.declared.request.Effect.{Effect}
use Rattle.fc_base.specs.declared.request.Reply.{Reply}
use Rattle.fc_base.specs.declared.size.GrainSize.{GrainSize}
use Rattle.fc_books.specs.Deciding.{IsLoopOf, settle}
use Rattle.fc_legal.specs.Stands.{Stands}
use Rattle.fc_legal.specs.Steps.{left_by, after_settling, decided_on}
use Rattle.fc_legal.specs.Whole.{Whole}
use Rattle.fc_stands.specs.Phase.{StandsAt}
use Rattle.fc_stands.specs.Store.{StoreView}

-- So few decisions were made before a command, two for each entry.
abbrev pub AreFew : ℕ → Whole → Type 0
AreFew decisions w = (decisions ≤ 2 * w.entries) × (w.entries ≤ 262144)

-- ---- the settling

-- The store stands for something that can be settled.
abbrev pub CanSettle : StoreView → Type 0
CanSettle s = (decisions : ℕ) × (w : Whole) × AreFew decisions w × StandsAt decisions s w

-- This is the settling of whatever the store stands for.
abbrev pub IsSettling : StoreView → Decision → Type 0
IsSettling s d = (decisions : ℕ) (w : Whole) → StandsAt decisions s w → d ≡ settle w.books

-- It is settled, with these effects; or for want of memory it is as it was.
abbrev pub Settles : Result (List Effect) NoMemory → StoreView → StoreView → Type 0
Settles (Ok effects) old new =
    (decisions : ℕ) (w : Whole) → AreFew decisions w → StandsAt decisions old w →
    (effects ≡ (settle w.books).effects) × StandsAt (decisions + 1) new (after_settling old.control.grain w)
Settles (Err error) old new = (decisions : ℕ) (w : Whole) → StandsAt decisions old w → StandsAt decisions new w

-- ---- what is decided after it

-- The store stands for what was settled.
pub record IsSettled (decisions : ℕ) (s : StoreView) (w : Whole) : Type 0 where
  pub few : AreFew decisions w
  pub before : Stands decisions w
  pub now : StandsAt (decisions + 1) s (after_settling s.control.grain w)

abbrev pub CanDecide : StoreView → Type 0
CanDecide s = (decisions : ℕ) × (w : Whole) × IsSettled decisions s w

-- This is decided of the command, by whatever the store stands for.
abbrev pub IsDecisionOn : StoreView → Command → Decision → Type 0
IsDecisionOn s command d =
    (decisions : ℕ) (w : Whole) → StandsAt decisions s w →
    (loop : Option (List VolId)) × IsLoopOf s.control.grain w.books command loop × (d ≡ decided_on s.control.grain w command loop)

-- What was decided of the command after the settling is done, with this reply; the effects are those of both.
pub record IsDoneAfter (decisions : ℕ) (grain : GrainSize) (w : Whole) (command : Command) (reply : Reply) (effects : List Effect) (new : StoreView) : Type 0 where
  pub loop : Option (List VolId)
  pub told : IsLoopOf grain (after_settling grain w).books command loop
  pub replied : reply ≡ (decided_on grain (after_settling grain w) command loop).reply
  pub effects_are : effects ≡ (settle w.books).effects ++ (decided_on grain (after_settling grain w) command loop).effects
  pub stands : StandsAt (decisions + 1 + 1) new (left_by grain (after_settling grain w) (decided_on grain (after_settling grain w) command loop))

-- It is done; or for want of memory the store is as it was.
abbrev pub Decides : Result (Reply × List Effect) NoMemory → StoreView → StoreView → Command → List Effect → Type 0
Decides (Ok answer) old new command before =
    (decisions : ℕ) (w : Whole) → IsSettled decisions old w → before ≡ (settle w.books).effects →
    IsDoneAfter decisions old.control.grain w command answer.0 answer.1 new
Decides (Err error) old new command before = (decisions : ℕ) (w : Whole) → StandsAt decisions old w → StandsAt decisions new w
