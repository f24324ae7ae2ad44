use Rattle.std.proofs.Common.{◌≡◌, drop}
use Rattle.fc_words.proofs.DigitLemmas.{pushed_all}
use Rattle.fc_words.proofs.values.number.Given as goal

abbrev pub invariant-loop-byte : goal.invariant-loop-byte
invariant-loop-byte l = pushed_all l.value (drop l.byte-index l.word) ≡ pushed_all 0 l.word
