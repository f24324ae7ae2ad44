use Rattle.std.proofs.Common.{sym, ◌∙◌}
use Rattle.fc_check_lines.proofs.Standing.{over_left, seconds_left}
use Rattle.fc_check_lines.proofs.lines.begin_seconds.Goals as goal

pub returns-then-not-is_done : goal.returns-then-not-is_done
returns-then-not-is_done g c =
    over_left (g.T.Told.whole c.args.told.now) c.args.reply.now c.args.seconds (sym c.is_done.ensures ∙ c.if-not-is_done.true)

pub returns : goal.returns
returns g c =
    seconds_left (g.T.Told.whole c.args.told.now) c.args.reply.now c.args.seconds c.in_ok-passing.passing (sym c.is_done.ensures ∙ c.if-not-is_done.false) c.in_ok-passing.ensures
