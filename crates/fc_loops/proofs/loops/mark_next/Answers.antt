use Rattle.std.proofs.Common.{◌≡◌, ◌+◌, ◌<◌, ◌≤◌, true, arith, refl, sym, ◌∙◌, subst, List, ℕ}
use Rattle.fc_loops.specs.Links.{link_at, IsWithin, unmarked}
use Rattle.fc_loops.proofs.LoopMarks.{Marking, marking_first, marking_passed, marked_more, one_marked, no_more}
use Rattle.fc_loops.proofs.loops.mark_next.Goals as goal
use Rattle.fc_loops.proofs.loops.mark_next.Goals.{then-mark_one, else-mark_one}

pub loop-link-init : goal.loop-link-init
loop-link-init c = record { marking = marking_first _ _ _ _ c.requires.so_far; none = λ e. refl; some = λ e. absurd cc }

pub loop-link-preserved : goal.loop-link-preserved
loop-link-preserved c =
    elim c.if-mark_one.branch [
      | then-mark_one w ↦ (let m = one_marked c.args.links.now c.args.start c.args.level c.loop-link.marks c.mark_one.new.marks c.loop-link.link-index c.loop-link.invariant.marking c.loop-link-test.true
          (subst (λ (z : ℕ). IsWithin z (link_at c.args.links.now c.loop-link.link-index)) (sym c.loop-link.auto.marks) (c.requires.within c.loop-link.link-index c.loop-link-test.true))
          (c.mark_one.ensures.marked w.if-mark_one.true) in
          let less : unmarked c.mark_one.new.marks < unmarked c.loop-link.marks = m.1 in
          let before : unmarked c.loop-link.marks ≤ unmarked c.args.marks.now = no_more c.loop-link.any _ _ c.loop-link.invariant.none c.loop-link.invariant.some in
          let any : c.if-mark_one.any ≡ true = w.any-is in
          record { marking = m.0; none = λ e. absurd cc; some = λ e. omega arith })
      | else-mark_one w ↦ (let p = c.mark_one.ensures.passed w.if-mark_one.false in
          let same : c.if-mark_one.any ≡ c.loop-link.any = w.any-is in
          record {
            marking = subst (λ (z : List ℕ). Marking c.args.links.now c.args.start c.args.level z (c.loop-link.link-index + 1)) (sym p.1) (marking_passed _ _ _ _ c.loop-link.link-index c.loop-link.invariant.marking p.0);
            none = λ e. p.1 ∙ c.loop-link.invariant.none (sym same ∙ e);
            some = λ e. subst (λ (z : List ℕ). unmarked z < unmarked c.args.marks.now) (sym p.1) (c.loop-link.invariant.some (sym same ∙ e));
          })
    ]

pub returns-clause-more : goal.returns-clause-more
returns-clause-more c = marked_more _ _ _ _ c.loop-link.link-index (omega arith) c.loop-link.invariant.marking
