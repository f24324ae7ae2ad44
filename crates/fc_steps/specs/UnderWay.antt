-- The steps of an entry, one after the other: what comes next, what one step does, and how far they came.
use Rattle.std.specs.Prelude.{◌≡◌, ℕ, ◌+◌, ◌*◌, ◌<◌, ◌≤◌, ◌^◌, Bool, true, false, not, cond, is_some, take, drop, Option, Some, None, List, [], ◌∷◌, ◌++◌, length, map}
use Rattle.fc_base.specs.Column.{holder}
use Rattle.fc_base.specs.MovePlan.{PlannedMoves}
use Rattle.fc_base.specs.Moves.{fill_moves, write_moves}
use Rattle.fc_base.specs.Sheet.{Slot, slot_at, column, birth_place, live_place}
use Rattle.fc_base.specs.declared.ids.GrainNo.{GrainNo}
use Rattle.fc_base.specs.declared.request.Move.{Move}
use Rattle.fc_base.specs.declared.request.Side.TheVariants.{Under}
use Rattle.fc_base.specs.declared.request.WritePart.{WritePart}
use Rattle.fc_chain.specs.Chains.{Chains}
use Rattle.fc_entry.specs.Picture.{Content, Lost, grain_of_block, is_lost}
use Rattle.fc_grains.specs.Grains.{GrainsState}
use Rattle.fc_pictures.specs.Law.{StoredAt}
use Rattle.fc_pictures.specs.LaneLaw.{StoredWritten}
use Rattle.fc_rules.specs.LaneTold.{LaneOf, LaneTold, place_of}
use Rattle.fc_rules.specs.LaneTurn.{spot_at, copied_slot, cleaned_slot}
use Rattle.fc_rules.specs.Shows.{Stored}
use Rattle.fc_rules.specs.Spot.{Spot, move_in}
use Rattle.fc_rules.specs.Steps.{DiskStep, calls_of_steps, step_of_move, steps_of_fill, steps_of_write}
use Rattle.fc_steps.specs.StepsEnd.{CanMakeMoves, StepsEnd, StepsStand, torn_in}
use Rattle.fc_steps.specs.WriteStep.{IsWrite}
use Rattle.fc_steps.specs.declared.ask.Ask.{Ask}
use Rattle.fc_steps.specs.declared.ask.Ask.TheVariants.{Write, Copy, Clean}
use Rattle.fc_steps.specs.declared.body.StepEnd.{StepEnd}
use Rattle.fc_steps.specs.declared.stepping.Next.{Next}
use Rattle.fc_steps.specs.declared.stepping.Next.TheVariants.{Move as NextMove, Own, Over}
use Rattle.fc_steps.specs.declared.stepping.Steps.{Steps}
use Rattle.fc_steps.specs.declared.stop.Stop.{Stop}
use Rattle.fc_steps.specs.declared.stop.Stop.TheVariants.{Failed, NoMemory}

-- ---- what is asked, by what is told

-- The number of its grain, and all that matters there.
abbrev pub grain_asked : LaneOf → Ask → ℕ
grain_asked l (Write part) = grain_of_block l.grain part.block
grain_asked l (Copy m grain) = grain.0
grain_asked l (Clean m grain) = grain.0

abbrev pub spot_asked : LaneOf → LaneTold → Ask → Spot
spot_asked l told ask = spot_at l told (grain_asked l ask)

-- The place of the slot that is written or filled.
abbrev pub slot_asked : LaneOf → LaneTold → Ask → Option ℕ
slot_asked l told (Write part) = live_place told.sheet.slots part.volume.0
slot_asked l told (Copy m grain) = copied_slot told.sheet.slots m.0 (place_of l grain.0)
slot_asked l told (Clean m grain) = cleaned_slot told.sheet.slots m.0 (place_of l grain.0)

-- Of the slot at place `x`: the slots that move, all steps, and the write behind the moves.
abbrev pub moving_asked : Spot → Ask → ℕ → List ℕ
moving_asked spot (Write part) x = write_moves spot.column x
moving_asked spot (Copy m grain) x = fill_moves spot.column x
moving_asked spot (Clean m grain) x = fill_moves spot.column x

abbrev pub steps_asked : LaneOf → Spot → Ask → ℕ → List DiskStep
steps_asked l spot (Write part) x = steps_of_write l.grain spot part x
steps_asked l spot (Copy m grain) x = steps_of_fill spot x
steps_asked l spot (Clean m grain) x = steps_of_fill spot x

abbrev pub write_asked : Ask → Option WritePart
write_asked (Write part) = Some part
write_asked (Copy m grain) = None
write_asked (Clean m grain) = None

-- What is written fits.
abbrev pub CanOwn : LaneOf → LaneTold → Ask → ℕ → Type 0
CanOwn l told (Write part) x = IsWrite l told part x
CanOwn l told (Copy m grain) x = Unit {0}
CanOwn l told (Clean m grain) x = Unit {0}

-- ---- what comes next

-- After the moves the write, where one is asked for.
abbrev pub own_next : Ask → Next
own_next (Write part) = Own part
own_next (Copy m grain) = Over
own_next (Clean m grain) = Over

-- The first of the moves that are left, or what comes after them.
abbrev pub move_next : List Move → Next → Next
move_next [] own = own
move_next (m ∷ rest) own = NextMove m

-- Nothing once a step stopped, or once the write was done.
abbrev pub next_unless : Option Stop → Bool → Next → Next
next_unless (Some stop) written next = Over
next_unless None true next = Over
next_unless None false next = next

abbrev pub next_of : Steps → Next
next_of s = next_unless s.stop s.written (move_next (drop s.made s.planned.moves) (own_next s.ask))

-- Before the first step.
abbrev pub first_steps : Ask → GrainNo → ℕ → PlannedMoves → Steps
first_steps ask grain place plan =
    record { ask = ask; grain = grain; place = place; planned = plan; made = 0; written = false; calls = 0; stop = None }

-- What a step that ended so leaves of the steps.
abbrev pub after_step : Next → StepEnd → Steps → Steps
after_step (NextMove m) end s = record s { made = cond (is_some end.stop) s.made (s.made + 1); calls = s.calls + end.calls; stop = end.stop }
after_step (Own part) end s = record s { written = not (is_some end.stop); calls = s.calls + end.calls; stop = end.stop }
after_step Over end s = s

-- ---- what one step stores

-- Nothing changes.
abbrev pub StoredSame : Stored → Stored → Type 0
StoredSame old new = (w y : ℕ) → new w y ≡ old w y

-- A move to this place of a volume, of this content, by the calls that it made and its stop. In place it calls no disk and
-- changes nothing. Else the content is there, by two calls, and by none where it is lost; or the read failed; or the write
-- failed, and nothing that can be read is there; or a thin disk wanted memory.
abbrev pub MoveStores : (v g : ℕ) → Content → (in_place : Bool) → (calls : ℕ) → Option Stop → Stored → Stored → Type 0
MoveStores v g content true calls None old new = (calls ≡ 0) × StoredSame old new
MoveStores v g content true calls (Some stop) old new = ⊥
MoveStores v g content false calls None old new = (calls ≡ cond (is_lost content) 0 2) × StoredAt old v g content new
MoveStores v g content false calls (Some (Failed None)) old new = (calls ≡ 1) × StoredSame old new
MoveStores v g content false calls (Some (Failed (Some torn))) old new =
    (calls ≡ 2) × (torn.volume.0 ≡ v) × (torn.side ≡ Under) × StoredAt old v g Lost new
MoveStores v g content false calls (Some NoMemory) old new = (calls ≡ 2) × StoredSame old new

-- The move's slot is at place `slot`, and the slot at place `source` is its holder: that one's volume is read.
pub record MoveStored (slots : List Slot) (g : ℕ) (m : Move) (end : StepEnd) (old new : Stored) : Type 0 where
  pub slot : ℕ
  pub source : ℕ
  pub slot_is : birth_place slots m.slot.0 ≡ Some slot
  pub volume_is : (slot_at slots slot).volume ≡ m.volume.0
  pub holds : holder (column slots g) slot ≡ Some source
  pub stores : MoveStores m.volume.0 g (old (slot_at slots source).volume g) m.in_place end.calls end.stop old new

-- The write itself: what is written is at its place; or its write failed, and nothing that can be read is there; or nothing
-- changed.
abbrev pub OwnStored : LaneOf → LaneTold → WritePart → Option Stop → Stored → Stored → Type 0
OwnStored l told part None old new = StoredWritten l told.picture part old new
OwnStored l told part (Some (Failed None)) old new = StoredSame old new
OwnStored l told part (Some (Failed (Some torn))) old new = StoredAt old part.volume.0 (place_of l (grain_of_block l.grain part.block)) Lost new
OwnStored l told part (Some NoMemory) old new = StoredSame old new

-- ---- how far they came

-- Moves of these slots at a grain: `made` were made, by so many calls, and stand; the rest is left.
pub record MovesCame (l : LaneOf) (told : LaneTold) (number : ℕ) (ks : List ℕ) (made rest : List Move) (calls : ℕ) (chains : Chains) (old : GrainsState) (after : Chains) (new : GrainsState) : Type 0 where
  pub done : List ℕ
  pub left : List ℕ
  pub split : ks ≡ done ++ left
  pub made_are : made ≡ map (move_in (spot_at l told number)) done
  pub rest_are : rest ≡ map (move_in (spot_at l told number)) left
  pub calls_are : calls ≡ calls_of_steps (map (step_of_move (spot_at l told number)) done)
  pub stands : StepsStand l told None made calls None chains old after new

-- So many moves were made; or all of them and the write; or a step stopped, after these moves.
abbrev pub StepsCame : LaneOf → LaneTold → Ask → ℕ → List Move → List Move → ℕ → Option Stop → Bool → Chains → GrainsState → Chains → GrainsState → Type 0
StepsCame l told ask x made rest calls None false chains old after new =
    MovesCame l told (grain_asked l ask) (moving_asked (spot_asked l told ask) ask x) made rest calls chains old after new
StepsCame l told ask x made rest calls None true chains old after new =
    StepsEnd (spot_asked l told ask) (steps_asked l (spot_asked l told ask) ask x) made calls None old new
    × StepsStand l told (write_asked ask) made calls None chains old after new
StepsCame l told ask x made rest calls (Some stop) written chains old after new =
    StepsEnd (spot_asked l told ask) (steps_asked l (spot_asked l told ask) ask x) made calls (Some stop) old new
    × StepsStand l told None made calls (torn_in (Some stop)) chains old after new

-- What is asked fits, for the slot at place `x`, in a lane that stands for what is told; its moves are planned.
pub record AreAsked (l : LaneOf) (told : LaneTold) (x : ℕ) (ask : Ask) (number place : ℕ) (planned : List Move) (chains : Chains) (old : GrainsState) : Type 0 where
  pub can : CanMakeMoves l told (grain_asked l ask) (moving_asked (spot_asked l told ask) ask x) chains old
  pub own : CanOwn l told ask x
  pub number_is : number ≡ grain_asked l ask
  pub place_is : place ≡ place_of l (grain_asked l ask)
  pub planned_are : planned ≡ map (move_in (spot_asked l told ask)) (moving_asked (spot_asked l told ask) ask x)

-- Steps of what was asked in a lane that stood for what is told: how far they came since.
pub record AreUnderWay (l : LaneOf) (told : LaneTold) (x : ℕ) (chains : Chains) (old : GrainsState) (s : Steps) (after : Chains) (new : GrainsState) : Type 0 where
  pub asked : AreAsked l told x s.ask s.grain.0 s.place s.planned.moves chains old
  pub came : StepsCame l told s.ask x (take s.made s.planned.moves) (drop s.made s.planned.moves) s.calls s.stop s.written chains old after new

-- The calls so far can be counted.
pub record IsCounted (s : Steps) : Type 0 where
  pub short : length s.planned.moves < 2 ^ 30
  pub within : s.made ≤ length s.planned.moves
  pub few : s.stop ≡ None → s.written ≡ false → s.calls ≤ 2 * s.made
