-- The steps of a write or a fill, found from its moves.
use Rattle.std.specs.Prelude.{◌≡◌, ℕ, ◌<◌, true, cond, ◌||◌, Some, List, fold, length}
use Rattle.fc_base.specs.Sheet.{Sheet, slot_at, live_place}
use Rattle.fc_base.specs.SheetFacts.{IsSound}
use Rattle.fc_base.specs.SheetStep.{sheet_moved}
use Rattle.fc_base.specs.declared.request.Move.{Move}
use Rattle.fc_base.specs.declared.request.Side.TheVariants.{Under}
use Rattle.fc_entry.specs.Picture.{Picture, is_lost, volume_in, now_at}
use Rattle.fc_rules.specs.Steps.{DiskStep}
use Rattle.fc_check_lane.specs.Known.{Known}

-- A move as a step.
abbrev pub step_of : Picture → Move → DiskStep
step_of picture m =
    record { volume = m.volume.0; move = Some m; calls = cond (m.in_place || is_lost (now_at (volume_in picture m.volume) m.grain.0)) 0 2; side = Under }

-- The chains after moves.
abbrev pub moved_by : Sheet → Move → Sheet
moved_by s m = sheet_moved m.volume.0 m.grain.0 m.in_place s

abbrev pub after_all : Sheet → List Move → Sheet
after_all s moves = fold moved_by s moves

-- The chains are such as are reached, and a live slot has the grain.
pub record CanWrite (k : Known) (number t : ℕ) : Type 0 where
  pub sound : IsSound k.sheet
  pub there : t < length k.sheet.slots
  pub is_live : (slot_at k.sheet.slots t).is_live ≡ true
  pub inside : number < length (slot_at k.sheet.slots t).held

-- The same of the live slot of a volume.
abbrev pub CanWriteTo : Known → ℕ → ℕ → Type 0
CanWriteTo k v number = (t : ℕ) → live_place k.sheet.slots v ≡ Some t → CanWrite k number t
