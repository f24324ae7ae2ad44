use Rattle.std.proofs.Common.{◌≡◌, map, take}
use Rattle.fc_base.specs.Grain.{block_bytes}
use Rattle.fc_check_picture.specs.Blocks.{widened}
use Rattle.fc_check_picture.proofs.bytes.are_widened.Given as goal

-- the runs so far are
abbrev pub invariant-loop-index : goal.invariant-loop-index
invariant-loop-index l = take l.index l.runs ≡ take l.index (map (widened block_bytes) l.blocks)
