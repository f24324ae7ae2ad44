use Rattle.std.proofs.Common.{◌≡◌, ◌≢◌, ◌<◌, false, Some, length, length-drop, arith, sym, ◌∙◌, ap}
use Rattle.std.specs.List.{position}
use Rattle.fc_words.proofs.WordLemmas.{words_of-split, words_of-whole}
use Rattle.fc_words.specs.Words.{starts_blank, words_of}
use Rattle.fc_blocks.proofs.FrontWords.{is_letter, words_of-start, starts_blank-start, start_inside, words_of-none}
use Rattle.fc_blocks.proofs.actor_line.first_word.Goals as goal

pub returns-in_default : goal.returns-in_default
returns-in_default c = words_of-none c.args.line.now (sym c.word_start.ensures ∙ c.in_default.is)

pub returns-in-Some-word_end : goal.returns-in-Some-word_end
returns-in-Some-word_end c =
    let front : position is_letter c.args.line.now ≡ Some c.in-Some.start = sym c.word_start.ensures ∙ c.in-Some.is in
    let words : words_of c.split_at.result.1.now ≡ words_of c.args.line.now = ap words_of c.split_at.ensures.back ∙ words_of-start c.args.line.now c.in-Some.start front in
    let letter : starts_blank c.split_at.result.1.now ≡ false = ap starts_blank c.split_at.ensures.back ∙ starts_blank-start c.args.line.now c.in-Some.start front in
    let first = words_of-split c.split_at.result.1.now c.in-Some-word_end.end letter (sym c.word_end.ensures ∙ c.in-Some-word_end.is) in
    cc

pub returns-in-None : goal.returns-in-None
returns-in-None c =
    let front : position is_letter c.args.line.now ≡ Some c.in-Some.start = sym c.word_start.ensures ∙ c.in-Some.is in
    let words : words_of c.split_at.result.1.now ≡ words_of c.args.line.now = ap words_of c.split_at.ensures.back ∙ words_of-start c.args.line.now c.in-Some.start front in
    let inside : c.in-Some.start < length c.args.line.now = start_inside c.args.line.now c.in-Some.start front in
    let some : length c.split_at.result.1.now ≢ 0 = omega (arith, ap length c.split_at.ensures.back, length-drop c.in-Some.start c.args.line.now) in
    let only = words_of-whole c.split_at.result.1.now some (sym c.word_end.ensures ∙ c.in-None.is) in
    cc
