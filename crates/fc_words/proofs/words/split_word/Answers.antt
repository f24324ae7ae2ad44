use Rattle.std.proofs.Common.{◌≢◌, length, arith, sym, ◌∙◌}
use Rattle.std.proofs.lemmas.Bool.Decides.{nat_tests}
use Rattle.fc_words.proofs.WordLemmas.{words_of-split, words_of-whole}
use Rattle.fc_words.proofs.words.split_word.Goals as goal

pub returns-in-Some : goal.returns-in-Some
returns-in-Some c =
    let first = words_of-split c.skip_blanks-rest.result.now c.in-Some.end c.skip_blanks-rest.ensures.at_word (sym c.first_blank.ensures ∙ c.in-Some.is) in
    cc

pub returns-in-None : goal.returns-in-None
returns-in-None c =
    let some : length c.skip_blanks-rest.result.now ≢ 0 = grind (arith, nat_tests) in
    let only = words_of-whole c.skip_blanks-rest.result.now some (sym c.first_blank.ensures ∙ c.in-None.is) in
    cc
