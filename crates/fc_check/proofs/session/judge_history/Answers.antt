-- Before the first entry, and behind the last.
use Rattle.std.proofs.Common.{◌≡◌, ℕ, subst, arith}
use Rattle.fc_check.specs.Progress.{AnswerSoFar}
use Rattle.fc_check.proofs.JudgeLemmas.{answers_opened, said_remains, said_whole}
use Rattle.fc_check.proofs.WayLemmas.{is_true, not_true}
use Rattle.fc_check.proofs.session.judge_history.Goals as goal

pub loop-number-init : goal.loop-number-init
loop-number-init c =
    answers_opened c.args.header.now c.args.history.now c.args.session.now c.in-Ok.answering c.in-Ok.ensures.grain c.in-Ok.ensures.entries
    (c.in-Ok.ensures.places c.args.history.now.actors)

pub returns-then-is_over : goal.returns-then-is_over
returns-then-is_over c =
    let all : c.loop-number.number ≡ c.len-count.result =
    omega (arith, c.loop-number-test.false, c.loop-number.auto.number-end, c.len-number-end.ensures, c.len-count.ensures) in
    said_whole c.args.header.now c.args.history.now c.args.session.now c.len-count.result c.loop-number.answering c.len-count.ensures
    (
    subst (λ (n : ℕ). AnswerSoFar c.args.header.now c.args.history.now c.args.session.now n c.loop-number.answering) all
    c.loop-number.invariant
    )
    (c.is_over.ensures.0 (is_true c.is_over.result c.if-is_over.true))

pub returns : goal.returns
returns c =
    let all : c.loop-number.number ≡ c.len-count.result =
    omega (arith, c.loop-number-test.false, c.loop-number.auto.number-end, c.len-number-end.ensures, c.len-count.ensures) in
    said_remains c.args.header.now c.args.history.now c.args.session.now c.len-count.result c.loop-number.answering c.len-count.ensures
    (
    subst (λ (n : ℕ). AnswerSoFar c.args.header.now c.args.history.now c.args.session.now n c.loop-number.answering) all
    c.loop-number.invariant
    )
    (λ end. not_true c.is_over.result c.if-is_over.false (c.is_over.ensures.1 end))
