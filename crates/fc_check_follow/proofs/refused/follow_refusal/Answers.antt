use Rattle.std.proofs.lemmas.Result.{on_ok_weaker}
use Rattle.fc_check_follow.proofs.Refusing.{refusal_none, refusal_one}
use Rattle.fc_check_follow.proofs.Tests.{untrue}
use Rattle.fc_check_follow.proofs.refused.follow_refusal.Goals as goal

pub returns-then-says_refused : goal.returns-then-says_refused
returns-then-says_refused c =
    on_ok_weaker c.keep_one_more.result
    (refusal_one c.args.way c.args.refusal.now c.args.entry.now c.args.after.now.items c.keep_one_more.new.after.items (c.says_refused.ensures.0 c.if-says_refused.true))
    c.keep_one_more.ensures

pub returns-else-says_refused : goal.returns-else-says_refused
returns-else-says_refused c = refusal_none c.args.way c.args.refusal.now c.args.entry.now c.args.after.now.items (untrue c.says_refused.result c.if-says_refused.false c.says_refused.ensures)
