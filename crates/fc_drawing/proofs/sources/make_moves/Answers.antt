use Rattle.std.proofs.Common.{arith, false}
use Rattle.fc_drawing.proofs.Making.{chains_all, made_more, made_none, sources_all}
use Rattle.fc_drawing.proofs.sources.make_moves.Goals as goal

pub loop-made-init : goal.loop-made-init
loop-made-init c = made_none _ _ _ c.new-sources.ensures.items

pub loop-made-preserved : goal.loop-made-preserved
loop-made-preserved c =
    made_more _ _ _ _ _ _ _ (record { slot = record { 0 = 0 }; volume = record { 0 = 0 }; grain = record { 0 = 0 }; in_place = false }) _ c.loop-made-test.true c.loop-made.invariant c.source_of.ensures c.in_ok-push_source.ensures c.moved.ensures

pub returns-clause-sources : goal.returns-clause-sources
returns-clause-sources c = sources_all _ _ _ _ _ (omega arith) c.loop-made.invariant

pub returns-clause-made : goal.returns-clause-made
returns-clause-made c = chains_all _ _ _ _ _ (omega arith) c.loop-made.invariant
