use Rattle.fc_check_lines.proofs.Standing.{others_left, passing_left}
use Rattle.fc_check_lines.proofs.lines.behind_last.Goals as goal

pub returns-in-Passing : goal.returns-in-Passing
returns-in-Passing g c =
    passing_left (g.T.Told.whole c.args.told.now) c.args.reply.now c.begin_seconds.result c.args.behind c.in-Passing.seconds c.in-Passing.is c.begin_seconds.ensures

pub returns-in_default : goal.returns-in_default
returns-in_default g c =
    others_left (g.T.Told.whole c.args.told.now) c.args.reply.now c.ask_more.result c.args.behind c.in_default.not-Passing c.ask_more.ensures
