-- Which grain a worker's turn takes, by what is kept.
use Rattle.std.specs.Prelude.{ℕ, ◌^◌, ◌<◌, Bool, Option, is_some, option_map, length}
use Rattle.fc_base.specs.Column.{first_below}
use Rattle.fc_base.specs.Sheet.{mapping_place, slot_at}
use Rattle.fc_base.specs.declared.ids.GrainNo.{GrainNo}
use Rattle.fc_base.specs.declared.ids.MapId.{MapId}
use Rattle.fc_pick.specs.Next.{next_work}
use Rattle.fc_pick.specs.declared.work.WorkFlags.{WorkFlags}
use Rattle.fc_rules.specs.LaneTold.{LaneOf, number_at, grains_in}
use Rattle.fc_rules.specs.LaneTurn.{copied_slot, cleaned_slot, grains_of}
use Rattle.fc_check_lane.specs.Known.{Known}
use Rattle.fc_check_lane.specs.declared.turn.Work.{Work}
use Rattle.fc_check_lane.specs.declared.turn.Work.TheVariants.{Copying, Cleaning}

-- Each grain of a slot has a number below 2^32.
abbrev pub HasFewGrains : Known → Type 0
HasFewGrains k = (place : ℕ) → length (slot_at k.sheet.slots place).held < 2 ^ 32

-- The mappings that have such work, and the slot that it fills at a grain.
abbrev pub has_work : Work → WorkFlags → Bool
has_work Copying row = row.copies
has_work Cleaning row = row.cleans

abbrev pub filled_in : Work → Known → ℕ → ℕ → Option ℕ
filled_in Copying k m number = copied_slot k.sheet.slots m number
filled_in Cleaning k m number = cleaned_slot k.sheet.slots m number

-- The least grain of a lane that the work of a mapping could fill.
abbrev pub least_of : Work → Known → LaneOf → ℕ → Option GrainNo
least_of work k l m =
    option_map (λ g. record { 0 = number_at l g })
    (first_below (λ g. is_some (filled_in work k m (number_at l g))) (grains_in l (grains_of k.sheet.slots (mapping_place k.sheet.slots m))))

-- The same of the lanes that there are.
abbrev pub lane_in : Known → ℕ → LaneOf
lane_in k i = record { lane = i; lanes = length k.faults; grain = k.grain }

abbrev pub least_in : Work → Known → ℕ → ℕ → Option GrainNo
least_in work k i m = least_of work k (lane_in k i) m

-- The first mapping by id that has such work in the lane, and its least grain.
abbrev pub next_in : Work → Known → ℕ → Option (MapId × GrainNo)
next_in work k i = next_work (has_work work) (λ (m : MapId). least_in work k i m.0) k.flags
