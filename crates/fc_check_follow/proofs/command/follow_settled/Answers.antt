use Rattle.std.proofs.lemmas.Result.{on_ok_weaker}
use Rattle.fc_check_follow.proofs.Commanding.{settled_one}
use Rattle.fc_check_follow.proofs.Ready.{copied_left}
use Rattle.fc_check_follow.proofs.command.follow_settled.Goals as goal

pub leave-requires : goal.leave-requires
leave-requires c = copied_left c.args.way.now c.in_ok-copied.copied c.args.settling.now c.requires.way c.requires.settling c.in_ok-copied.ensures

pub returns : goal.returns
returns c =
    on_ok_weaker c.keep_one_more.result
    (settled_one c.args.way.now c.in_ok-copied.copied c.in_ok-settled.settled c.args.settling.now c.args.entry.now c.args.after.now.items c.keep_one_more.new.after.items c.requires.settling (c.is_same.ensures.0 c.if-not-is_same.false) c.in_ok-copied.ensures c.in_ok-settled.ensures)
    c.keep_one_more.ensures
