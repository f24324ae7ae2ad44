use Rattle.fc_loops.proofs.LoopLinks.{linked_none}
use Rattle.fc_loops.proofs.links.list_links.Goals as goal

pub loop-place-init : goal.loop-place-init
loop-place-init c = linked_none _ _ _ c.new-links.ensures.items
