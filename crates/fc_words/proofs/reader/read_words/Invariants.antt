use Rattle.std.proofs.Common.{◌≡◌, ◌+◌, length}
use Rattle.fc_words.specs.Given.{nothing_given}
use Rattle.fc_words.specs.Lines.{read_words}
use Rattle.fc_words.specs.Words.{words_of}
use Rattle.fc_words.proofs.reader.read_words.Given as goal

abbrev pub invariant-loop-word : goal.invariant-loop-word
invariant-loop-word l = record {
  same : read_words l.verb l.at l.given (words_of l.rest) ≡ read_words l.verb l.first nothing_given (words_of l.words);
  counted : l.at + length (words_of l.rest) ≡ l.first + length (words_of l.words);
}

abbrev pub decreases-loop-word : goal.decreases-loop-word
decreases-loop-word l = length (words_of l.rest)
