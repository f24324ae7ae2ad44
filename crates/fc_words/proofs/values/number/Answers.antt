use Rattle.std.proofs.Common.{◌<◌, length, sym, ◌∙◌, arith}
use Rattle.std.proofs.lemmas.Bool.Decides.{nat_tests}
use Rattle.fc_words.proofs.DigitLemmas.{pushed_all-number, pushed_all-end, pushed_all-stop}
use Rattle.fc_words.proofs.values.number.Goals as goal

pub returns-in-None : goal.returns-in-None
returns-in-None c =
    let some : 0 < length c.args.word.now = omega arith in
    let whole = pushed_all-number c.args.word.now some in
    let stop = pushed_all-stop c.loop-byte.value c.loop-byte.byte-index c.args.word.now c.loop-byte-test.true (sym c.push_digit.ensures ∙ c.in-None.is) in
    sym stop ∙ (c.loop-byte.invariant ∙ whole)

pub returns : goal.returns
returns c =
    let some : 0 < length c.args.word.now = grind (arith, nat_tests) in
    let whole = pushed_all-number c.args.word.now some in
    let end = pushed_all-end c.loop-byte.value c.loop-byte.byte-index c.args.word.now c.loop-byte-test.false in
    sym end ∙ (c.loop-byte.invariant ∙ whole)
