use Rattle.fc_check_follow.proofs.Refusing.{asked_came}
use Rattle.fc_check_follow.proofs.refused.follow_access.Goals as goal

pub returns : goal.returns
returns c =
    asked_came c.args.way.grain c.args.way.whole c.args.entry.now c.args.after.now.items c.follow_must.new.after.items c.follow_must.result c.refused_access-refusal.result _
    c.refused_access-refusal.ensures c.follow_must.ensures
