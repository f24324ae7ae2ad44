use Rattle.std.proofs.lemmas.Result.{on_ok_weaker}
use Rattle.fc_check_follow.proofs.Ready.{open_can, small_of}
use Rattle.fc_check_follow.proofs.Refusing.{lane_none, lane_one}
use Rattle.fc_check_follow.proofs.Tests.{untrue}
use Rattle.fc_check_follow.proofs.way.follow_lane.Goals as goal

pub is_next-requires-clause-sound : goal.is_next-requires-clause-sound
is_next-requires-clause-sound c = (open_can c.args.way.whole c.requires.way).sound

pub is_next-requires-clause-small : goal.is_next-requires-clause-small
is_next-requires-clause-small c = small_of c.args.way.whole (open_can c.args.way.whole c.requires.way)

pub returns-then-not-right : goal.returns-then-not-right
returns-then-not-right c = lane_none c.args.way c.args.entry.now c.args.after.now.items c.requires.of_lanes (untrue c.in_ok-right.right c.if-not-right.true c.in_ok-right.ensures)

pub returns : goal.returns
returns c =
    on_ok_weaker c.keep.result
    (lane_one c.args.way c.in_ok-next.next c.args.entry.now c.args.after.now.items c.keep.new.after.items (c.in_ok-right.ensures.0 c.if-not-right.false) c.in_ok-next.ensures)
    c.keep.ensures
