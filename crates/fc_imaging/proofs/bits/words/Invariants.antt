use Rattle.std.proofs.Common.{◌≡◌, map, replicate}
use Rattle.std.specs.List.{range_with_len}
use Rattle.fc_bits.specs.Words.{words_for}
use Rattle.fc_imaging.specs.Bits.{bit_told}
use Rattle.fc_kept.specs.Images.{words_from}
use Rattle.fc_imaging.proofs.bits.words.Given as goal

abbrev pub invariant-loop-grain : goal.invariant-loop-grain
invariant-loop-grain g l = l.words ≡ words_from (map (bit_told l.lanes l.bits) (range_with_len 0 l.grain)) 0 (replicate (words_for l.grains) 0)
