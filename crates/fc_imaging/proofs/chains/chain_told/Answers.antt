use Rattle.std.proofs.Common.{◌+◌, ◌-◌, ◌∙◌, arith}
use Rattle.fc_kept.specs.Images.{slot_told}
use Rattle.fc_lane_sheet.specs.LaneSheet.{chains_of}
use Rattle.fc_sums.specs.Parts.{joined_slot}
use Rattle.fc_imaging.proofs.Adding.{mapped_more}
use Rattle.fc_imaging.proofs.chains.chain_told.Goals as goal

pub loop-place-preserved : goal.loop-place-preserved
loop-place-preserved g c =
    c.in_ok-push.ensures.ok
    ∙ mapped_more slot_told (joined_slot (chains_of c.args.lanes.now)) c.args.from (c.loop-place.place - c.args.from) (c.loop-place.place + 1 - c.args.from) c.loop-place.place
    c.loop-place.told c.in_ok-slot_told.field-0 (omega (arith, c.loop-place.auto.place)) (omega (arith, c.loop-place.auto.place)) c.loop-place.invariant c.in_ok-slot_told.ensures
