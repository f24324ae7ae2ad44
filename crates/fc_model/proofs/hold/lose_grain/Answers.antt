use Rattle.std.proofs.Common.{◌∙◌, sym, ap}
use Rattle.fc_base.specs.SheetStep.{grain_lost}
use Rattle.fc_model.proofs.Mapping.{mapped_more}
use Rattle.fc_model.proofs.hold.lose_grain.Goals as goal

pub loop-slot-preserved : goal.loop-slot-preserved
loop-slot-preserved c =
    mapped_more (grain_lost c.args.volume c.args.grain) _ _ _ c.slot-item.result _ c.loop-slot.invariant c.loop-slot-test.true c.slot-item.is
    (c.lose.ensures ∙ ap (grain_lost c.args.volume c.args.grain) (sym c.slot-item.is))
