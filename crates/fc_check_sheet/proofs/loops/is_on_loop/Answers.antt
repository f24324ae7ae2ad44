use Rattle.std.proofs.lemmas.Bool.{both_ways}
use Rattle.model_slots.proofs.Needs.{false_is}
use Rattle.fc_check_sheet.proofs.Looping.{leads_from}
use Rattle.fc_check_sheet.proofs.loops.is_on_loop.Goals as goal

pub returns-then-not-leads_on : goal.returns-then-not-leads_on
returns-then-not-leads_on c = false_is (λ r. both_ways c.leads_on.result c.if-not-leads_on.true (c.leads_on.ensures.1 (leads_from c.args.links.now c.args.volume r)))
