use Rattle.std.proofs.Common.{◌≤◌, length, arith, subst, sym, List, ℕ}
use Rattle.fc_loops.specs.Routes.{AreMarkedTo}
use Rattle.fc_loops.specs.Links.{HasLink, unmarked}
use Rattle.fc_loops.proofs.LoopMarks.{marked_none, marked_all, unmarked_fits}
use Rattle.fc_loops.proofs.loops.mark_all.Goals as goal

pub returns : goal.returns
returns c =
    let same = c.mark_next.ensures.none c.loop-level-test.false in
    marked_all _ _ c.loop-level.level _ (subst (λ (z : List ℕ). AreMarkedTo (HasLink c.args.links.now) c.args.start c.loop-level.level z) (sym same) c.loop-level.invariant.so_far) c.mark_next.ensures.more

pub loop-level-init : goal.loop-level-init
loop-level-init c = record { so_far = marked_none _ _ _ c.clear.ensures; room = (let f : unmarked c.clear.new.marks ≤ length c.clear.new.marks = unmarked_fits c.clear.new.marks in omega arith) }
