use Rattle.std.proofs.Common.{◌≡◌, ◌+◌, ◌-◌, ◌<◌, ℕ, List, arith, refl, sym, ◌∙◌, subst}
use Rattle.fc_loops.specs.Routes.{mark_at}
use Rattle.fc_loops.specs.Links.{HasLink}
use Rattle.fc_loops.proofs.LoopSteps.{next_is, next_none}
use Rattle.fc_loops.proofs.LoopWalk.{GoesOn, next_there, goes_first, goes_more, goes_last}
use Rattle.fc_loops.proofs.loops.walk.Goals as goal

pub loop-left-init : goal.loop-left-init
loop-left-init c =
    record {
      there = c.requires.there;
      mark_is = refl;
      some = c.requires.on_loop;
      so_far = goes_first (HasLink c.args.links.now) c.args.start (mark_at c.args.marks.now c.args.start) c.new-nodes.result c.push.new.self c.new-nodes.ensures c.in_ok-push.ensures.ok;
    }

pub loop-left-preserved : goal.loop-left-preserved
loop-left-preserved c =
    let n = next_is c.args.links.now c.loop-left.here (c.loop-left.left - 1) c.args.marks.now c.next_node.result c.in-Some.next c.requires.within c.next_node.ensures c.in-Some.is in
    let more : c.loop-left.left ≡ c.loop-left.left - 1 + 1 = omega (arith, c.loop-left-test.true) in
    let some : 0 < c.loop-left.left - 1 = omega (arith, c.loop-left-test.true) in
    let g : GoesOn (HasLink c.args.links.now) c.args.start (mark_at c.args.marks.now c.args.start) c.loop-left.nodes c.loop-left.here (c.loop-left.left - 1 + 1) =
    subst (λ (z : ℕ). GoesOn (HasLink c.args.links.now) c.args.start (mark_at c.args.marks.now c.args.start) c.loop-left.nodes c.loop-left.here z) more c.loop-left.invariant.so_far in
    record {
      there = n.there;
      mark_is = n.mark_is;
      some = some;
      so_far = subst (λ (z : List ℕ). GoesOn (HasLink c.args.links.now) c.args.start (mark_at c.args.marks.now c.args.start) z c.in-Some.next (c.loop-left.left - 1)) (sym c.in_ok-push-2.ensures.ok)
          (goes_more (HasLink c.args.links.now) c.args.start (mark_at c.args.marks.now c.args.start) c.loop-left.nodes c.loop-left.here c.in-Some.next (c.loop-left.left - 1) c.args.marks.now c.requires.marked (c.loop-left.invariant.mark_is ∙ more) some n.link n.mark_is n.least g);
    }

pub unreachable-requires : goal.unreachable-requires
unreachable-requires c =
    let more : c.loop-left.left ≡ c.loop-left.left - 1 + 1 = omega (arith, c.loop-left-test.true) in
    let x = next_there (HasLink c.args.links.now) c.args.start c.loop-left.here (c.loop-left.left - 1) c.args.marks.now c.requires.marked (c.loop-left.invariant.mark_is ∙ more) (omega (arith, c.loop-left-test.true)) in
    next_none c.args.links.now c.loop-left.here (c.loop-left.left - 1) c.args.marks.now c.next_node.result x.0 c.next_node.ensures c.in-None.is x.1 x.2

pub returns : goal.returns
returns c =
    let one : c.loop-left.left ≡ 1 = omega (arith, c.loop-left-test.false, c.loop-left.invariant.some) in
    goes_last (HasLink c.args.links.now) c.args.start (mark_at c.args.marks.now c.args.start) c.loop-left.nodes c.loop-left.here c.args.marks.now c.requires.marked (c.loop-left.invariant.mark_is ∙ one)
    (subst (λ (z : ℕ). GoesOn (HasLink c.args.links.now) c.args.start (mark_at c.args.marks.now c.args.start) c.loop-left.nodes c.loop-left.here z) one c.loop-left.invariant.so_far)
