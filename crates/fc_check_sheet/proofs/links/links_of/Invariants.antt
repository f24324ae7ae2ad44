use Rattle.fc_check_sheet.proofs.Linking.{EdgesBelow}
use Rattle.fc_check_sheet.proofs.links.links_of.Given as goal

abbrev pub invariant-loop-old : goal.invariant-loop-old
invariant-loop-old l = EdgesBelow l.sheet.slots l.old l.links.items
