use Rattle.model_slots.proofs.Lists.{filter_map_more}
use Rattle.model_slots.proofs.moves.readers_of.Goals as goal

pub loop-holder-preserved : goal.loop-holder-preserved
loop-holder-preserved c =
    filter_map_more _ _ _ _ c.loop-holder.holder-index _ c.loop-holder-test.true c.loop-holder.invariant c.reader_of.ensures.value c.in_ok-push_found.ensures
