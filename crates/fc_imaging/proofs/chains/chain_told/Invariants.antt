use Rattle.std.proofs.Common.{◌≡◌, ◌-◌, map}
use Rattle.std.specs.List.{range_with_len}
use Rattle.fc_kept.specs.Images.{slot_told}
use Rattle.fc_lane_sheet.specs.LaneSheet.{chains_of}
use Rattle.fc_sums.specs.Parts.{joined_slot}
use Rattle.fc_imaging.proofs.chains.chain_told.Given as goal

abbrev pub invariant-loop-place : goal.invariant-loop-place
invariant-loop-place g l = l.told ≡ map slot_told (map (joined_slot (chains_of l.lanes)) (range_with_len l.from (l.place - l.from)))
