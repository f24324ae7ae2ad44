use Rattle.std.proofs.Common.{◌∙◌, sym, ap}
use Rattle.fc_base.specs.SheetStep.{split_from}
use Rattle.fc_model.proofs.Mapping.{mapped_more}
use Rattle.fc_model.proofs.hold.join_chain.Goals as goal

pub loop-slot-preserved : goal.loop-slot-preserved
loop-slot-preserved c =
    mapped_more (split_from c.args.chain c.args.other) _ _ _ c.slot-item.result _ c.loop-slot.invariant c.loop-slot-test.true c.slot-item.is
    (c.join.ensures ∙ ap (split_from c.args.chain c.args.other) (sym c.slot-item.is))
