use Rattle.std.proofs.Common.{ℕ, ◌+◌, Option, sym, subst, arith}
use Rattle.std.proofs.lemmas.Bool.{both_ways}
use Rattle.fc_check_sheet.specs.Loops.{LeastNext}
use Rattle.fc_check_sheet.proofs.Measuring.{link_at, item_is}
use Rattle.fc_check_sheet.proofs.Looping.{step_taken, step_passed, step_done}
use Rattle.fc_check_sheet.proofs.loops.next_volume.Goals as goal
use Rattle.fc_check_sheet.proofs.loops.next_volume.Goals.{then-betters, else-betters}

pub loop-link-preserved : goal.loop-link-preserved
loop-link-preserved c =
    let P : Option ℕ → Type 0 = λ z. LeastNext c.args.links.now c.args.distances.now c.args.here c.args.away (c.loop-link.link-index + 1) z in
    elim c.if-betters.branch [
      | then-betters w ↦ subst P (sym w.next-is) (step_taken c.args.links.now c.args.distances.now c.args.here c.args.away c.loop-link.link-index (link_at c.args.links.now c.loop-link.link-index) c.loop-link.next c.loop-link-test.true
          (item_is c.args.links.now c.loop-link.link-index c.loop-link-test.true) (c.betters.ensures.0 w.if-betters.true) c.loop-link.invariant)
      | else-betters w ↦ subst P (sym w.next-is) (step_passed c.args.links.now c.args.distances.now c.args.here c.args.away c.loop-link.link-index (link_at c.args.links.now c.loop-link.link-index) c.loop-link.next c.loop-link-test.true
          (item_is c.args.links.now c.loop-link.link-index c.loop-link-test.true) (λ b. both_ways c.betters.result w.if-betters.false (c.betters.ensures.1 b)) c.loop-link.invariant)
    ]

pub returns : goal.returns
returns c = step_done c.args.links.now c.args.distances.now c.args.here c.args.away c.loop-link.link-index c.loop-link.next (omega arith) c.loop-link-test.false c.loop-link.invariant
