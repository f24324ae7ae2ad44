use Rattle.fc_apart.proofs.EffectRanges.{next_behind}
use Rattle.fc_apart.proofs.effects.copy_ranges.Goals as goal

pub push-requires : goal.push-requires
push-requires c = next_behind c.loop-range.copy c.as_slice-range-items.result.now c.args.ranges.now c.loop-range.range-index _ c.loop-range.invariant c.as_slice-range-items.ensures.value c.as_slice-range-items.ensures.rising c.loop-range-test.true
