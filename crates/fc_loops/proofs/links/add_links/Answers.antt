use Rattle.std.proofs.Common.{arith}
use Rattle.std.proofs.lemmas.Bool.{both_ways}
use Rattle.fc_loops.proofs.LoopLinks.{linked_more, linked_end, linked_first}
use Rattle.fc_loops.proofs.links.add_links.Goals as goal

pub loop-links-init : goal.loop-links-init
loop-links-init c = record { behind = omega arith; linked = linked_first _ _ _ _ c.requires.so_far }

pub loop-links-preserved : goal.loop-links-preserved
loop-links-preserved c =
    let go = c.goes_on.ensures.0 c.loop-links-test.true in
    record {
      behind = omega (arith, c.loop-links.invariant.behind);
      linked = linked_more c.args.rows.now c.args.volumes.now c.loop-links.links.items c.add_link.new.links.items c.args.place c.loop-links.behind c.in-Some.from c.linked_to.result c.requires.rising go.0 c.loop-links.invariant.behind c.requires.old go.1 c.in-Some.ensures c.linked_to.ensures c.in_ok-add_link.ensures c.loop-links.invariant.linked;
    }

pub returns : goal.returns
returns c = linked_end c.args.rows.now c.args.volumes.now c.loop-links.links.items c.args.place c.loop-links.behind c.requires.together c.loop-links.invariant.behind (λ go. both_ways c.goes_on.result c.loop-links-test.false (c.goes_on.ensures.1 go)) c.loop-links.invariant.linked
