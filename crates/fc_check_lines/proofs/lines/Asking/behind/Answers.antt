use Rattle.fc_check_lines.proofs.Standing.{faults_left, fill_left, nothing_left, own_left}
use Rattle.fc_check_lines.proofs.lines.Asking.behind.Goals as goal

pub returns-in-Nothing : goal.returns-in-Nothing
returns-in-Nothing g c = nothing_left (g.T.Told.grain c.args.told.now) (g.T.Told.whole c.args.told.now) c.args.actor c.args.reply.now c.args.self c.in-Nothing.is

pub returns-in-Own : goal.returns-in-Own
returns-in-Own g c =
    own_left (g.T.Told.grain c.args.told.now) (g.T.Told.whole c.args.told.now) c.args.actor c.args.reply.now c.behind_own.result c.args.self c.in-Own.requests c.in-Own.behind c.in-Own.is c.behind_own.ensures

pub returns-in_ok-follow-in-Seconds : goal.returns-in_ok-follow-in-Seconds
returns-in_ok-follow-in-Seconds g c =
    fill_left (g.T.Told.grain c.args.told.now) (g.T.Told.whole c.args.told.now) c.args.actor c.args.reply.now c.args.self c.in-Seconds.passing c.follow.new.self c.in-Seconds.is c.in_ok-follow-in-Seconds.ensures

pub returns-in-Faults : goal.returns-in-Faults
returns-in-Faults g c =
    faults_left (g.T.Told.grain c.args.told.now) (g.T.Told.whole c.args.told.now) c.args.actor c.args.reply.now c.args.self c.in-Faults.requests c.take_first.new.self c.in-Faults.actors c.in-Faults.is c.take_first.ensures
