use Rattle.std.proofs.Common.{◌≡◌, ℕ, ◌+◌, ◌*◌, ◌<◌, ◌≤◌, Some, length}
use Rattle.fc_entry.specs.Picture as picture
use Rattle.fc_entry.specs.Picture.{now_at, grain_of_block}
use Rattle.fc_plain.specs.Reading.{blocks_from}
use Rattle.fc_plain.proofs.reading.read_blocks.Given as goal

-- the bytes of the blocks so far, none of which stands in a lost grain
abbrev pub invariant-loop-offset : goal.invariant-loop-offset
invariant-loop-offset l = record {
  bytes : l.buffer.items ≡ blocks_from l.grain (Some l.volume) l.block l.offset;
  size : length l.buffer.items ≤ 512 * l.offset;
  none_lost : (b : ℕ) → l.block ≤ b → b < l.block + l.offset → now_at (Some l.volume) (grain_of_block l.grain b) ≡ picture.Lost → ⊥;
}
