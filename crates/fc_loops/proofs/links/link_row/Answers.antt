use Rattle.fc_loops.proofs.LoopLinks.{linked_live, linked_repeated}
use Rattle.fc_loops.proofs.links.link_row.Goals as goal

pub returns-then-rows-place : goal.returns-then-rows-place
returns-then-rows-place c = linked_live _ _ _ _ c.if-rows-place.true c.requires.so_far

pub returns-then-is_repeated : goal.returns-then-is_repeated
returns-then-is_repeated c = linked_repeated _ _ _ _ (c.is_repeated.ensures c.if-is_repeated.true) c.requires.so_far
