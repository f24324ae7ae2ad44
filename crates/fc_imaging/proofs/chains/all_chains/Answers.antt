use Rattle.std.proofs.Common.{◌-◌, List, ◌++◌, length, map, sym, ap, ◌∙◌}
use Rattle.std.specs.List.{range_with_len}
use Rattle.fc_base.specs.Sheet.{Slot, slot_at}
use Rattle.fc_image.specs.declared.image.MetaChain.{MetaChain}
use Rattle.fc_kept.specs.Images.{chains_told}
use Rattle.fc_lane_sheet.specs.LaneSheet.{chains_of, sheet_of}
use Rattle.fc_sums.specs.Parts.{joined_slot}
use Rattle.fc_imaging.proofs.Runs.{more_chains}
use Rattle.fc_imaging.proofs.chains.all_chains.Goals as goal

pub loop-from-preserved : goal.loop-from-preserved
loop-from-preserved g c = (
  c.end_of_chain-end.ensures.within,
  ap (λ (z : List MetaChain). z ++ chains_told (map (joined_slot (chains_of c.args.lanes.now)) (range_with_len c.end_of_chain-end.result (length c.args.slots.now - c.end_of_chain-end.result))))
      c.in_ok-push.ensures.ok
      ∙ more_chains (joined_slot (chains_of c.args.lanes.now)) (length c.args.slots.now) c.loop-from.from c.end_of_chain-end.result (slot_at c.args.slots.now c.loop-from.from).chain c.loop-from.chains
      (chains_told (sheet_of c.args.lanes.now).slots) c.in_ok-chain_told.field-0 c.end_of_chain-end.ensures.some c.end_of_chain-end.ensures.within
      (λ k ge lt. ap (λ (xs : List Slot). (slot_at xs k).chain) (sym c.requires) ∙ c.end_of_chain-end.ensures.same k ge lt)
      (λ lt e. c.end_of_chain-end.ensures.ends lt (ap (λ (xs : List Slot). (slot_at xs c.end_of_chain-end.result).chain) c.requires ∙ e))
      c.in_ok-chain_told.ensures c.loop-from.invariant.1,
)
