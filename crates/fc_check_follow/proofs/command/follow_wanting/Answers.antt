use Rattle.std.proofs.lemmas.Result.{on_ok_weaker}
use Rattle.fc_check_follow.specs.Following.{LeavesAll, LeavesSettled}
use Rattle.fc_check_follow.proofs.Coming.{came_then}
use Rattle.fc_check_follow.proofs.Commanding.{wanting_once}
use Rattle.fc_check_follow.proofs.Ready.{open_can, small_of}
use Rattle.fc_check_follow.proofs.command.follow_wanting.Goals as goal

pub settle-requires-clause-sound : goal.settle-requires-clause-sound
settle-requires-clause-sound c = (open_can c.args.way.whole c.requires).sound

pub settle-requires-clause-small : goal.settle-requires-clause-small
settle-requires-clause-small c = small_of c.args.way.whole (open_can c.args.way.whole c.requires)

pub returns-then-does_nothing : goal.returns-then-does_nothing
returns-then-does_nothing c =
    on_ok_weaker c.follow_unsettled.result
    (wanting_once c.args.way c.in_ok-settling.settling c.args.entry.now c.args.after.now.items c.follow_unsettled.new.after.items c.in_ok-settling.ensures (c.does_nothing.ensures.0 c.if-does_nothing.true))
    c.follow_unsettled.ensures

pub returns : goal.returns
returns c =
    on_ok_weaker c.follow_unsettled-2.result
    (came_then c.args.way.grain (LeavesSettled c.args.way.grain c.args.way.whole c.args.entry.now) (LeavesAll c.args.way.whole c.args.entry.now) c.args.after.now.items c.follow_settled.new.after.items c.follow_unsettled-2.new.after.items c.in_ok-follow_settled.ensures)
    c.follow_unsettled-2.ensures
