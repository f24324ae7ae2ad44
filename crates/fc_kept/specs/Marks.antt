-- Which grains count as changed: those of the history, and at most those of writes that were begun.
use Rattle.std.specs.Prelude.{◌≡◌, ℕ, true, fold, List, [], ◌∷◌, ◌++◌, length, Option, Some, None}
use Rattle.fc_base.specs.Sheet.{Sheet}
use Rattle.fc_base.specs.declared.command.Command.{Command}
use Rattle.fc_base.specs.declared.decision.Decision.{Decision}
use Rattle.fc_base.specs.declared.decision.LaneEvent.{LaneEvent}
use Rattle.fc_base.specs.declared.ids.VolId.{VolId}
use Rattle.fc_base.specs.declared.request.Request.{Request}
use Rattle.fc_base.specs.declared.request.Request.TheVariants.{Command as Asked, Write}
use Rattle.fc_base.specs.declared.request.WritePart.{WritePart}
use Rattle.fc_base.specs.declared.size.GrainSize.{GrainSize}
use Rattle.fc_books.specs.After.{sheet_after}
use Rattle.fc_books.specs.Deciding.{settle, IsLoopOf}
use Rattle.fc_changed.specs.Notes.{has}
use Rattle.fc_changed.specs.Row.{Row, after_note}
use Rattle.fc_entry.specs.declared.entry.Entry.{Entry}
use Rattle.fc_follow.specs.Following.{write_notes, torn_notes, restarts, rows_event}
use Rattle.fc_legal.specs.Steps.{left_by, after_settling, decided_on, one_more}
use Rattle.fc_legal.specs.Whole.{Whole, single_lane}
use Rattle.fc_rules.specs.LaneTold.{LaneOf}

-- ---- the least rows: every write that was asked for counts, whatever it answered

abbrev pub asked_write : Request → Option WritePart
asked_write (Write part) = Some part
asked_write request = None

-- A write that may be under way counts, too.
abbrev pub least_asked : LaneOf → List Row → Option Request → List Row
least_asked l least None = least
least_asked l least (Some r) = fold after_note least (write_notes l (asked_write r))

-- After an entry of a lane.
abbrev pub least_entry : LaneOf → List Row → Entry → List Row
least_entry l least entry = fold after_note least (write_notes l (asked_write entry.request) ++ torn_notes l entry.torn)

-- After the events of a decision: each notes to the least rows what it notes to the rows.
abbrev pub least_events : Sheet → List Row → List Row → List LaneEvent → List Row
least_events s rows least [] = least
least_events s rows least (event ∷ events) =
    least_events (sheet_after (restarts rows) s event) (rows_event s.slots rows event) (rows_event s.slots least event) events

abbrev pub least_by : Whole → List Row → Decision → List Row
least_by w least d = least_events w.books.sheet w.rows least d.events

-- What a command leaves, with the least rows after it.
pub data LeastLeft (grain : GrainSize) (w : Whole) (least : List Row) (command : Command) : Whole → List Row → Type 0 where
  decided : (loop : Option (List VolId)) → IsLoopOf grain (after_settling grain w).books command loop →
      LeastLeft grain w least command
      (left_by grain (after_settling grain w) (decided_on grain (after_settling grain w) command loop))
      (least_by (after_settling grain w) (least_by w least (settle w.books)) (decided_on grain (after_settling grain w) command loop))
  unsettled : LeastLeft grain w least command w least
  settled_alone : LeastLeft grain w least command (after_settling grain w) (least_by w least (settle w.books))

-- The least rows after an entry that leads from the one whole to the other.
abbrev pub LeastStep : GrainSize → Whole → List Row → Request → Entry → Whole → List Row → Type 0
LeastStep grain w least (Asked command) entry next least' =
    (left : Whole) × LeastLeft grain w least command left least' × (next ≡ one_more left)
LeastStep grain w least request entry next least' = least' ≡ least_entry (single_lane grain) least entry

-- ---- rows between

-- The row that metadata has, for that of the history and the least row: of these three nothing differs but the grains at which both
-- volumes are the same. Where metadata has a grain so, the history has; and metadata has it so where the least row does.
pub record IsMarked (kept now least : Row) : Type 0 where
  pub kept_is : kept ≡ record now { same = kept.same }
  pub least_is : least ≡ record now { same = least.same }
  pub kept_size : length kept.same ≡ length now.same
  pub least_size : length least.same ≡ length now.same
  pub true_now : (g : ℕ) → has kept.same g ≡ true → has now.same g ≡ true
  pub not_less : (g : ℕ) → has least.same g ≡ true → has kept.same g ≡ true

abbrev pub AreMarked : (kept now least : List Row) → Type 0
AreMarked [] [] [] = Unit {0}
AreMarked (k ∷ ks) (n ∷ ns) (l ∷ ls) = IsMarked k n l × AreMarked ks ns ls
AreMarked kept now least = ⊥
