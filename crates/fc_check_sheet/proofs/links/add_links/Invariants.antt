use Rattle.fc_check_sheet.specs.Links.{AddsFirst}
use Rattle.fc_check_sheet.proofs.links.add_links.Given as goal

abbrev pub invariant-loop-live : goal.invariant-loop-live
invariant-loop-live l = AddsFirst l.sheet.slots l.old l.live l.fn.links.items l.links.items
