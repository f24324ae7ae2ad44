use Rattle.std.proofs.Common.{arith}
use Rattle.fc_base.specs.Grain.{block_bytes}
use Rattle.fc_check_picture.proofs.Runs.{widened_more}
use Rattle.fc_check_picture.proofs.bytes.are_widened.Goals as goal

pub loop-index-preserved : goal.loop-index-preserved
loop-index-preserved c =
    widened_more block_bytes c.args.runs.now c.args.blocks.now c.loop-index.index _ _ c.if-runs-blocks.false (omega arith) c.loop-index.invariant (c.is_widened.ensures.0 c.if-not-is_widened.false)
