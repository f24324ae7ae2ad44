use Rattle.fc_tallies.proofs.Retally.{held_counted, needed_counted, without_is}
use Rattle.fc_tallies.proofs.pairs.tally_without.Goals as goal

pub less-requires : goal.less-requires
less-requires c = held_counted c.args.slots.now c.args.place c.args.grain c.index-slots-place.result c.args.tally c.holds.result c.requires.there c.index-slots-place.is c.requires.tally c.holds.ensures

pub less-requires-2 : goal.less-requires-2
less-requires-2 c = needed_counted c.args.slots.now c.args.place c.args.grain c.args.tally c.is_needed.result c.requires.tally c.is_needed.ensures

pub returns : goal.returns
returns c =
    without_is c.args.slots.now c.args.place c.args.grain c.index-slots-place.result c.args.tally c.holds.result c.is_needed.result c.less.result c.less-2.result c.requires.there c.index-slots-place.is c.requires.tally c.holds.ensures c.is_needed.ensures c.less.ensures c.less-2.ensures
