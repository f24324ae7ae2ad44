use Rattle.std.proofs.Common.{Contains, All, false, List, refl, sym, subst}
use Rattle.std.proofs.lemmas.Bool.{both_ways}
use Rattle.std.proofs.lemmas.List.{take_all}
use Rattle.std.proofs.lemmas.List.Elements.{All-more, All-nil}
use Rattle.fc_check_answers.proofs.Running.{IsNotOver, end_there, no_end}
use Rattle.fc_check_answers.specs.Places.{Answers, HasEnd}
use Rattle.fc_check_answers.specs.declared.run.Run.{Run}
use Rattle.fc_check_answers.proofs.answering.Answering.is_over.Goals as goal

pub loop-run-init : goal.loop-run-init
loop-run-init c = All-nil IsNotOver

pub returns-then-is_over : goal.returns-then-is_over
returns-then-is_over c =
    let there : Contains c.deref-run-items.result.now c.run-item.result = (c.loop-run.run-index, c.loop-run-test.true, sym c.run-item.is) in (
      λ t. subst (λ (v : Answers). HasEnd v.places) c.self.view_is
          (end_there c.self.inside.runs.items c.run-item.result (subst (λ (runs : List Run). Contains runs c.run-item.result) c.deref-run-items.ensures.value there) (c.is_over.ensures.0 c.if-is_over.true)),
      λ end. refl,
    )

pub loop-run-preserved : goal.loop-run-preserved
loop-run-preserved c =
    All-more IsNotOver c.deref-run-items.result.now c.loop-run.run-index c.run-item.result c.loop-run-test.true c.loop-run.invariant
    (subst IsNotOver c.run-item.is (λ over. both_ways c.is_over.result c.if-is_over.false (c.is_over.ensures.1 over)))

pub returns : goal.returns
returns c =
    let all : All IsNotOver c.deref-run-items.result.now = subst (All IsNotOver) (take_all c.loop-run.run-index c.deref-run-items.result.now c.loop-run-test.false) c.loop-run.invariant in
    let none : All IsNotOver c.self.inside.runs.items = subst (All IsNotOver) c.deref-run-items.ensures.value all in (
      λ t. absurd (both_ways false refl t),
      λ end. absurd (no_end c.self.inside.runs.items none (subst (λ (v : Answers). HasEnd v.places) (sym c.self.view_is) end)),
    )
