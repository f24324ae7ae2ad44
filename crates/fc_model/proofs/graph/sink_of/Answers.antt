use Rattle.fc_model.proofs.Loops.{one_more_leads, each_leads}
use Rattle.fc_base.specs.Sheet.{shape_of}
use Rattle.fc_model.proofs.graph.sink_of.Goals as goal

pub loop-place-preserved : goal.loop-place-preserved
loop-place-preserved c = one_more_leads (shape_of c.args.slots.now) c.args.volumes.now c.loop-place.place c.loop-place.invariant (c.leads_into.ensures.0 c.if-not-leads_into.false)

pub returns : goal.returns
returns c = each_leads (shape_of c.args.slots.now) c.args.volumes.now c.loop-place.place c.loop-place-test.false c.loop-place.invariant
