use Rattle.std.proofs.lemmas.Result.{on_ok_weaker}
use Rattle.fc_check_follow.proofs.Refusing.{refused_none, refused_some}
use Rattle.fc_check_follow.proofs.refused.follow_must.Goals as goal

pub returns-in-Some : goal.returns-in-Some
returns-in-Some c =
    on_ok_weaker c.follow_refusal.result
    (refused_some c.args.way.grain c.args.way.whole c.args.entry.now c.args.after.now.items c.follow_refusal.new.after.items c.args.refusal c.in-Some.refusal c.in-Some.is)
    c.follow_refusal.ensures

pub returns-in-None : goal.returns-in-None
returns-in-None c = refused_none c.args.way.grain c.args.way.whole c.args.entry.now c.args.after.now.items c.args.refusal c.in-None.is
