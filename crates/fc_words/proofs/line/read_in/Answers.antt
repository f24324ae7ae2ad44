use Rattle.std.proofs.Common.{length, ap, arith}
use Rattle.fc_words.proofs.WordLemmas.{length-words_behind}
use Rattle.fc_words.proofs.line.read_in.Goals as goal

pub read_named-requires : goal.read_named-requires
read_named-requires c =
    omega (arith, length-words_behind c.args.line.now c.in-Some.first.now c.in-Some.words.now c.in-Some.ensures, ap length c.in-Some-split_word.ensures)

pub read_named-requires-else-is_prefix_word : goal.read_named-requires-else-is_prefix_word
read_named-requires-else-is_prefix_word c =
    omega (arith, length-words_behind c.args.line.now c.in-Some.first.now c.in-Some.words.now c.in-Some.ensures)
