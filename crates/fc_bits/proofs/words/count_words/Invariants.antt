use Rattle.std.proofs.Common.{length, take, drop, ◌+◌, ◌-◌, ◌≡◌, ◌≤◌}
use Rattle.std.specs.Simd.Lanes.{sum_l}
use Rattle.fc_bits.proofs.Counting.{ones_of}
use Rattle.fc_bits.proofs.words.count_words.Given as goal

-- the lanes together have counted the words so far
abbrev pub invariant-loop-at : goal.invariant-loop-at
invariant-loop-at l = record {
  within : l.at ≤ length l.words;
  counted : sum_l l.counts ≡ ones_of (take l.at l.words);
}

abbrev pub decreases-loop-at : goal.decreases-loop-at
decreases-loop-at l = length l.words - l.at

-- what is left makes up the whole
abbrev pub invariant-loop-word : goal.invariant-loop-word
invariant-loop-word l = l.total + ones_of (drop l.word-index l.word-items) ≡ ones_of l.words
