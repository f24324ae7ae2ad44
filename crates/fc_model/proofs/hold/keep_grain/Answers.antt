use Rattle.std.proofs.Common.{◌∙◌, sym, ap}
use Rattle.fc_base.specs.SheetStep.{grain_kept}
use Rattle.fc_model.proofs.Mapping.{mapped_more}
use Rattle.fc_model.proofs.hold.keep_grain.Goals as goal

pub loop-slot-preserved : goal.loop-slot-preserved
loop-slot-preserved c =
    mapped_more (grain_kept c.args.volume c.args.grain) _ _ _ c.slot-item.result _ c.loop-slot.invariant c.loop-slot-test.true c.slot-item.is
    (c.keep.ensures ∙ ap (grain_kept c.args.volume c.args.grain) (sym c.slot-item.is))
