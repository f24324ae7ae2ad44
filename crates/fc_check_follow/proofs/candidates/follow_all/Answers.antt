use Rattle.fc_check_follow.proofs.Together.{goes_on, number_last, open_last}
use Rattle.fc_check_follow.proofs.candidates.follow_all.Goals as goal

pub follow_way-requires-clause-way : goal.follow_way-requires-clause-way
follow_way-requires-clause-way c =
    open_last c.args.ways.items c.args.entry.now c.loop-way.ways.items c.pop.new.self.items c.in-Some.way c.loop-way.after.items c.in-Some.ensures.items c.loop-way.invariant c.requires.reached c.requires.few

pub follow_way-requires-clause-number : goal.follow_way-requires-clause-number
follow_way-requires-clause-number c =
    number_last c.args.ways.items c.args.entry.now c.loop-way.ways.items c.pop.new.self.items c.in-Some.way c.loop-way.after.items c.in-Some.ensures.items c.loop-way.invariant c.requires.reached

pub loop-way-preserved : goal.loop-way-preserved
loop-way-preserved c =
    goes_on c.args.ways.items c.args.entry.now c.loop-way.ways.items c.pop.new.self.items c.in-Some.way c.loop-way.after.items c.follow_way.new.after.items c.in-Some.ensures.items c.loop-way.invariant c.in_ok-follow_way.ensures
