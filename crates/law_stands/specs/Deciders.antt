-- The law of deciders: what the control part may rely on where it decides and does commands.
use Rattle.std.specs.Prelude.{◌≡◌, ℕ, ◌+◌, ◌^◌, ◌<◌, ◌≤◌, List, length, filter, AllPairs, Contains, Option, Some}
use Rattle.std.specs.Option.{ForSome}
use Rattle.fc_base.specs.Sheet.{slot_at}
use Rattle.fc_base.specs.declared.command.Command.{Command}
use Rattle.fc_base.specs.declared.decision.Decision.{Decision}
use Rattle.fc_base.specs.declared.ids.VolId.{VolId}
use Rattle.fc_base.specs.declared.size.GrainSize.{GrainSize}
use Rattle.fc_base.specs.declared.volume.Mapping.{Mapping}
use Rattle.fc_books.specs.Deciding.{IsLoopOf, settle}
use Rattle.fc_books.specs.Sound.{AreSound}
use Rattle.fc_desk.specs.Changes.{AreCountable, FitChanges, adds}
use Rattle.fc_follow.specs.Following.{restarts}
use Rattle.fc_legal.specs.Lawful.{IsLawful}
use Rattle.fc_legal.specs.Steps.{after_settling, decided_on}
use Rattle.fc_legal.specs.Whole.{Whole}
use Rattle.fc_starts.specs.Starts.{HaveRoom}
use Rattle.law_stands.specs.Reached.{IsReached}

-- Grains, ids and births can be counted, and the table lists the mapping of each slot, by id.
pub record CanDecide (w : Whole) : Type 0 where
  pub sound : AreSound w.books
  pub lanes : 0 < length w.books.pools
  pub room : HaveRoom w.books (restarts w.rows)
  pub held : (k : ℕ) → length (slot_at w.books.sheet.slots k).held ≤ 8192
  pub restart : (m : ℕ) → length (restarts w.rows m) ≤ 8192
  pub births : (k : ℕ) → k < length w.books.sheet.slots → (slot_at w.books.sheet.slots k).birth < 2 ^ 64
  pub volumes : (k : ℕ) → k < length w.books.sheet.slots → (slot_at w.books.sheet.slots k).volume < 2 ^ 32
  pub mappings : (k : ℕ) → k < length w.books.sheet.slots → ForSome (slot_at w.books.sheet.slots k).mapping (λ n. n < 2 ^ 32)
  pub rising : AllPairs (λ (a b : Mapping). a.id.0 < b.id.0) w.books.tables.mappings
  pub owned : (k n : ℕ) → k < length w.books.sheet.slots → (slot_at w.books.sheet.slots k).mapping ≡ Some n →
      (m : Mapping) × Contains w.books.tables.mappings m × (m.id.0 ≡ n)

-- A decision is lawful; its changes fit the tables, one object comes at most, and its id isn't the last that there is.
pub record CanLeave (grain : GrainSize) (decisions : ℕ) (w : Whole) (d : Decision) : Type 0 where
  pub lawful : IsLawful grain decisions w d
  pub fits : FitChanges w.books.tables d.changes
  pub one : length (filter adds d.changes) ≤ 1
  pub countable : AreCountable d.changes

pub record DecidersLaw : Type 0 where
  -- commands can be decided on what was reached
  pub can_decide : (decisions : ℕ) (w : Whole) → decisions < 2 ^ 32 → IsReached decisions w → CanDecide w
  -- a settling can be done on it, and then what is decided of a command
  pub settling : (grain : GrainSize) (decisions : ℕ) (w : Whole) → decisions + 2 < 2 ^ 32 → IsReached decisions w →
      CanLeave grain decisions w (settle w.books)
  pub deciding : (grain : GrainSize) (decisions : ℕ) (w : Whole) (command : Command) (loop : Option (List VolId)) →
      decisions + 3 < 2 ^ 32 → IsReached decisions w → IsLoopOf grain (after_settling grain w).books command loop →
      CanLeave grain (decisions + 1) (after_settling grain w) (decided_on grain (after_settling grain w) command loop)
