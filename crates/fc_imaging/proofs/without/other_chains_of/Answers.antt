use Rattle.std.proofs.Common.{◌-◌, List, ◌++◌, filter, length, map, sym, ap, ◌∙◌}
use Rattle.std.specs.List.{range_with_len}
use Rattle.fc_base.specs.Sheet.{Slot, slot_at}
use Rattle.fc_image.specs.declared.image.MetaChain.{MetaChain}
use Rattle.fc_imaging.specs.Without.{begins_else}
use Rattle.fc_kept.specs.Images.{chains_told}
use Rattle.fc_lane_sheet.specs.LaneSheet.{chains_of, sheet_of}
use Rattle.fc_sums.specs.Parts.{joined_slot, sheet_at}
use Rattle.fc_imaging.proofs.ChainsLeft.{chain_goes, chain_stays, is_another, is_gone}
use Rattle.fc_imaging.proofs.without.other_chains_of.Goals as goal

pub loop-from-preserved-then-volume-gone : goal.loop-from-preserved-then-volume-gone
loop-from-preserved-then-volume-gone g c = (
  c.end_of_chain-end.ensures.within,
  chain_goes (joined_slot (chains_of c.args.lanes.now)) c.args.gone (length c.args.slots.now) c.loop-from.from c.end_of_chain-end.result (slot_at c.args.slots.now c.loop-from.from).chain
      c.end_of_chain-end.ensures.some c.end_of_chain-end.ensures.within
      (λ k ge lt. ap (λ (xs : List Slot). (slot_at xs k).chain) (sym c.requires) ∙ c.end_of_chain-end.ensures.same k ge lt)
      (λ lt e. c.end_of_chain-end.ensures.ends lt (ap (λ (xs : List Slot). (slot_at xs c.end_of_chain-end.result).chain) c.requires ∙ e))
      c.loop-from.chains (filter (begins_else c.args.gone) (chains_told (sheet_of c.args.lanes.now).slots)) c.loop-from.invariant.1
      (is_gone c.args.slots.now (sheet_at (chains_of c.args.lanes.now) 0).slots c.loop-from.from c.index-slots-begin.result c.volume.result c.args.gone
      c.requires c.loop-from-test.true c.index-slots-begin.is c.volume.ensures c.if-volume-gone.true),
)

pub loop-from-preserved : goal.loop-from-preserved
loop-from-preserved g c = (
  c.end_of_chain-end.ensures.within,
  ap (λ (z : List MetaChain). z ++ filter (begins_else c.args.gone) (chains_told (map (joined_slot (chains_of c.args.lanes.now)) (range_with_len c.end_of_chain-end.result (length c.args.slots.now - c.end_of_chain-end.result)))))
      c.in_ok-push.ensures.ok
      ∙ chain_stays (joined_slot (chains_of c.args.lanes.now)) c.args.gone (length c.args.slots.now) c.loop-from.from c.end_of_chain-end.result (slot_at c.args.slots.now c.loop-from.from).chain
      c.end_of_chain-end.ensures.some c.end_of_chain-end.ensures.within
      (λ k ge lt. ap (λ (xs : List Slot). (slot_at xs k).chain) (sym c.requires) ∙ c.end_of_chain-end.ensures.same k ge lt)
      (λ lt e. c.end_of_chain-end.ensures.ends lt (ap (λ (xs : List Slot). (slot_at xs c.end_of_chain-end.result).chain) c.requires ∙ e))
      c.loop-from.chains (filter (begins_else c.args.gone) (chains_told (sheet_of c.args.lanes.now).slots)) c.loop-from.invariant.1
      c.in_ok-chain_told.field-0 c.in_ok-chain_told.ensures
      (is_another c.args.slots.now (sheet_at (chains_of c.args.lanes.now) 0).slots c.loop-from.from c.index-slots-begin.result c.volume.result c.args.gone
      c.requires c.loop-from-test.true c.index-slots-begin.is c.volume.ensures c.if-volume-gone.false),
)
