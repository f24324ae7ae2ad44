use Rattle.std.proofs.Common.{sym, ◌∙◌}
use Rattle.fc_steps.specs.Standing.{lane_of}
use Rattle.fc_rules.specs.LaneTurn.{cleaned_slot}
use Rattle.fc_steps.proofs.Turning.{none_is}
use Rattle.fc_steps.proofs.work.BodyGrid.needed.Goals as goal

pub returns-in-None : goal.returns-in-None
returns-in-None g c =
    none_is (lane_of c.args.self.now.cascade.lane c.args.self.now.cascade.lanes c.args.self.now.grains.grain) c.args.self.now.cascade.sheet.slots (cleaned_slot c.args.self.now.cascade.sheet.slots c.args.map.0) c.args.map.0
    (sym c.in-None.is ∙ c.slot.ensures.value)
