use Rattle.std.proofs.lemmas.Result.{on_ok_weaker}
use Rattle.fc_base.specs.declared.request.Request.TheVariants.{Unread}
use Rattle.fc_check_follow.proofs.Requests.{step_came}
use Rattle.fc_check_follow.proofs.way.follow_way.Goals as goal

pub returns-in-Unread : goal.returns-in-Unread
returns-in-Unread c =
    on_ok_weaker c.follow_refusal.result
    (step_came c.args.way c.args.entry.now (Unread c.in-Unread.fault) c.args.after.now.items c.follow_refusal.new.after.items c.requires.number c.in-Unread.is)
    c.follow_refusal.ensures
