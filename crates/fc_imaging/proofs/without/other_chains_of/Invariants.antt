use Rattle.std.proofs.Common.{◌≡◌, ◌-◌, ◌≤◌, ◌++◌, filter, length, map}
use Rattle.std.specs.List.{range_with_len}
use Rattle.fc_imaging.specs.Without.{begins_else}
use Rattle.fc_kept.specs.Images.{chains_told}
use Rattle.fc_lane_sheet.specs.LaneSheet.{chains_of, sheet_of}
use Rattle.fc_sums.specs.Parts.{joined_slot}
use Rattle.fc_imaging.proofs.without.other_chains_of.Given as goal

abbrev pub invariant-loop-from : goal.invariant-loop-from
invariant-loop-from g l =
    (l.from ≤ length l.slots)
    × (l.chains ++ filter (begins_else l.gone) (chains_told (map (joined_slot (chains_of l.lanes)) (range_with_len l.from (length l.slots - l.from))))
    ≡ filter (begins_else l.gone) (chains_told (sheet_of l.lanes).slots))

abbrev pub decreases-loop-from : goal.decreases-loop-from
decreases-loop-from g l = length l.slots - l.from
