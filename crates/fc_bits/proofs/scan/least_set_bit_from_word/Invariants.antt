use Rattle.std.proofs.Common.{◌≤◌, ◌-◌}
use Rattle.fc_bits.proofs.Places.{ClearBetween}
use Rattle.fc_bits.proofs.scan.least_set_bit_from_word.Given as goal

-- no word so far has a bit set
abbrev pub invariant-loop-at : goal.invariant-loop-at
invariant-loop-at g l = record {
  started : l.start ≤ l.at;
  within : l.at ≤ l.count;
  clear : ClearBetween (g.R.Row.word_at l.row) l.start l.at;
}

abbrev pub decreases-loop-at : goal.decreases-loop-at
decreases-loop-at g l = l.count - l.at

abbrev pub invariant-loop-index : goal.invariant-loop-index
invariant-loop-index g l = record {
  started : l.start ≤ l.at;
  clear : ClearBetween (g.R.Row.word_at l.row) l.start l.index;
}
