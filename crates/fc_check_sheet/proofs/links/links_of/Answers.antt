use Rattle.fc_check_sheet.proofs.Linking.{edges_more}
use Rattle.fc_check_sheet.proofs.links.links_of.Goals as goal

pub loop-old-preserved : goal.loop-old-preserved
loop-old-preserved c = edges_more c.args.sheet.now.slots c.loop-old.old c.loop-old.links.items c.add_links.new.links.items c.in_ok-add_links.ensures c.loop-old.invariant
