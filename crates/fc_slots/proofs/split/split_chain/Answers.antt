use Rattle.std.proofs.Common.{◌<◌, refl, length-set, arith}
use Rattle.fc_base.specs.SheetStep.{split_from}
use Rattle.fc_slots.proofs.Dividing.{cut_first, next_divided}
use Rattle.fc_slots.proofs.split.split_chain.Goals as goal

pub loop-behind-init : goal.loop-behind-init
loop-behind-init c = record {
  behind = omega arith;
  so_far = cut_first (split_from c.chain-from.result c.birth-to.result) c.args.slots.now _ c.args.place c.index-slots-place-3.result _ c.requires c.index-slots-place-3.is c.begin_chain.ensures refl;
}

pub loop-behind-preserved : goal.loop-behind-preserved
loop-behind-preserved c = record {
  behind = (let b : c.args.place < c.loop-behind.behind = c.loop-behind.invariant.behind in omega arith);
  so_far = next_divided (split_from c.chain-from.result c.birth-to.result) c.args.slots.now c.loop-behind.slots _ c.args.place c.loop-behind.behind c.index-slots-behind.result _
      c.loop-behind.invariant.so_far c.loop-behind.invariant.behind (omega (arith, c.loop-behind.auto.slots, length-set c.args.slots.now c.args.place c.begin_chain.new.self)) c.index-slots-behind.is c.go_along.ensures refl;
}
