use Rattle.fc_tallies.proofs.Retally.{held_fits, needed_fits, with_is, past_same}
use Rattle.fc_tallies.proofs.pairs.tally_with.Goals as goal

pub returns-then-grain-grains : goal.returns-then-grain-grains
returns-then-grain-grains c =
    past_same c.args.slots.now c.args.place c.args.grain c.index-slots-place.result c.args.tally c.grains.result c.requires.there c.index-slots-place.is c.grains.ensures c.if-grain-grains.true c.requires.tally

pub more-requires : goal.more-requires
more-requires c =
    held_fits c.args.slots.now c.args.place c.args.grain c.index-slots-place.result c.index-slots-place-2.result c.args.tally c.holds.result c.grains.result c.requires.there c.index-slots-place.is c.index-slots-place-2.is c.requires.tally c.holds.ensures c.grains.ensures c.grains.type_inv

pub more-requires-2 : goal.more-requires-2
more-requires-2 c =
    needed_fits c.args.slots.now c.args.place c.args.grain c.index-slots-place.result c.args.tally c.is_needed.result c.grains.result c.requires.there c.index-slots-place.is c.requires.tally c.is_needed.ensures c.grains.ensures c.grains.type_inv

pub returns : goal.returns
returns c =
    with_is c.args.slots.now c.args.place c.args.grain c.index-slots-place-2.result c.args.tally c.holds.result c.is_needed.result c.more.result c.more-2.result c.requires.there c.index-slots-place-2.is c.requires.tally c.holds.ensures c.is_needed.ensures c.more.ensures c.more-2.ensures
