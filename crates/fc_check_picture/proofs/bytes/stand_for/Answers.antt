use Rattle.std.proofs.Common.{arith}
use Rattle.fc_base.specs.Grain.{block_bytes}
use Rattle.fc_check_picture.proofs.Runs.{stand_same}
use Rattle.fc_check_picture.proofs.bytes.stand_for.Goals as goal

pub returns : goal.returns
returns c =
    stand_same block_bytes c.args.runs.now c.in_ok-own.own _ _ c.args.blocks.now c.are_widened.result (omega arith) c.as_slice.ensures.canonical c.in_ok-own.ensures.canonical
    c.in_ok-own.ensures.expands c.as_slice.ensures.value c.as_slice-2.ensures.value c.are_widened.ensures
