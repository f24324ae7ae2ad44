-- What a history may have come to at a stop: all that was answered, and of the entry under way all or its first moves.
use Rattle.std.specs.Prelude.{◌≡◌, ℕ, false, Option, Some, None, List, ◌++◌}
use Rattle.fc_base.specs.Sheet.{live_place}
use Rattle.fc_base.specs.declared.request.Request.{Request}
use Rattle.fc_base.specs.declared.request.Request.TheVariants.{Write, Copy, Clean}
use Rattle.fc_base.specs.declared.request.WritePart.{WritePart}
use Rattle.fc_base.specs.declared.size.GrainSize.{GrainSize}
use Rattle.fc_base.specs.declared.state.Access.TheVariants.{Online}
use Rattle.fc_changed.specs.Row.{Row}
use Rattle.fc_entry.specs.Picture.{grain_of_block}
use Rattle.fc_entry.specs.declared.entry.Entry.{Entry}
use Rattle.fc_legal.specs.Steps.{Step}
use Rattle.fc_legal.specs.Whole.{Whole, single_lane, as_one}
use Rattle.fc_rules.specs.GrainAnswers.{cannot_write}
use Rattle.fc_rules.specs.LaneTold.{lane_access, place_of, sheet_entry}
use Rattle.fc_rules.specs.LaneTurn.{spot_at, copied_slot, cleaned_slot}
use Rattle.fc_rules.specs.Spot.{Spot}
use Rattle.fc_rules.specs.Steps.{DiskStep, steps_of_write, steps_of_fill, moves_of}
use Rattle.fc_kept.specs.Marks.{least_asked, LeastStep}

-- ---- the steps of an entry, by all grains

abbrev pub spot_of : GrainSize → Whole → ℕ → Spot
spot_of grain w number = spot_at (single_lane grain) (as_one w) number

abbrev pub AreWriteSteps : GrainSize → Spot → WritePart → Option ℕ → List DiskStep → Type 0
AreWriteSteps grain spot part None steps = ⊥
AreWriteSteps grain spot part (Some t) steps = (cannot_write grain spot part ≡ false) × (steps ≡ steps_of_write grain spot part t)

abbrev pub AreFillSteps : Spot → Option ℕ → List DiskStep → Type 0
AreFillSteps spot None steps = ⊥
AreFillSteps spot (Some k) steps = steps ≡ steps_of_fill spot k

-- The steps that a write, a copy or a cleaning begins. Nothing else has any.
abbrev pub AreStepsOf : GrainSize → Whole → Request → List DiskStep → Type 0
AreStepsOf grain w (Write part) steps =
    (lane_access (as_one w).volumes part.volume ≡ Online) ×
    AreWriteSteps grain (spot_of grain w (grain_of_block grain part.block)) part (live_place w.books.sheet.slots part.volume.0) steps
AreStepsOf grain w (Copy m g) steps = AreFillSteps (spot_of grain w g.0) (copied_slot w.books.sheet.slots m.0 (place_of (single_lane grain) g.0)) steps
AreStepsOf grain w (Clean m g) steps = AreFillSteps (spot_of grain w g.0) (cleaned_slot w.books.sheet.slots m.0 (place_of (single_lane grain) g.0)) steps
AreStepsOf grain w request steps = ⊥

-- ---- where a history may stand

-- After these steps' moves, and nothing else: moves change what no volume shows.
abbrev pub moved_to : GrainSize → Whole → List DiskStep → Whole
moved_to grain w steps =
    record w { books = record w.books { sheet = sheet_entry (single_lane grain) w.books.sheet None (moves_of steps) None } }

-- From a whole with its least rows, while this was asked and isn't answered: the whole itself; with the unfinished entry, whole;
-- or with its first moves.
pub data Prefix (grain : GrainSize) (w : Whole) (least : List Row) : Option Request → Whole → List Row → Type 0 where
  acknowledged : (asked : Option Request) → Prefix grain w least asked w (least_asked (single_lane grain) least asked)
  whole : (entry : Entry) (next : Whole) (least' : List Row) → Step grain w entry next →
      LeastStep grain w least entry.request entry next least' → Prefix grain w least (Some entry.request) next least'
  moves : (r : Request) (done rest : List DiskStep) → AreStepsOf grain w r (done ++ rest) →
      Prefix grain w least (Some r) (moved_to grain w done) (least_asked (single_lane grain) least (Some r))
