use Rattle.std.proofs.lemmas.Result.{on_ok_weaker}
use Rattle.fc_check_follow.proofs.Commanding.{decision_none, decision_one, is_decision}
use Rattle.fc_check_follow.proofs.Ready.{deciding_left, settled_can, small_of}
use Rattle.fc_check_follow.proofs.Tests.{untrue}
use Rattle.fc_check_follow.proofs.command.follow_decision.Goals as goal

pub decide-requires-clause-sound : goal.decide-requires-clause-sound
decide-requires-clause-sound c = (settled_can c.args.way c.requires.settled).sound

pub decide-requires-clause-lanes : goal.decide-requires-clause-lanes
decide-requires-clause-lanes c = (settled_can c.args.way c.requires.settled).lanes

pub decide-requires-clause-room : goal.decide-requires-clause-room
decide-requires-clause-room c = (settled_can c.args.way c.requires.settled).room

pub decide-requires-clause-small : goal.decide-requires-clause-small
decide-requires-clause-small c = small_of c.args.way.whole (settled_can c.args.way c.requires.settled)

pub returns-then-not-answers : goal.returns-then-not-answers
returns-then-not-answers c =
    decision_none c.args.way c.args.command.now c.in_ok-decision.decision c.args.entry.now.reply c.args.effects.now c.args.after.now.items (is_decision c.args.way c.args.command.now c.in_ok-decision.decision c.in_ok-decision.ensures)
    (untrue c.answers.result c.if-not-answers.true c.answers.ensures)

pub leave-requires : goal.leave-requires
leave-requires c =
    deciding_left c.args.way c.args.command.now c.in_ok-decision.decision c.requires.settled (is_decision c.args.way c.args.command.now c.in_ok-decision.decision c.in_ok-decision.ensures)

pub returns : goal.returns
returns c =
    on_ok_weaker c.keep_one_more.result
    (decision_one c.args.way c.in_ok-left.left c.args.command.now c.in_ok-decision.decision c.args.entry.now.reply c.args.effects.now c.args.after.now.items c.keep_one_more.new.after.items (is_decision c.args.way c.args.command.now c.in_ok-decision.decision c.in_ok-decision.ensures) (c.answers.ensures.0 c.if-not-answers.false) c.in_ok-left.ensures)
    c.keep_one_more.ensures
