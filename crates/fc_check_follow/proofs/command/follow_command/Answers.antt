use Rattle.std.proofs.lemmas.Result.{on_ok_weaker}
use Rattle.fc_check_follow.proofs.Commanding.{other_came, wanting_came}
use Rattle.fc_check_follow.proofs.Tests.{untrue}
use Rattle.fc_check_follow.proofs.command.follow_command.Goals as goal

pub returns-then-not-is_of_command : goal.returns-then-not-is_of_command
returns-then-not-is_of_command c =
    other_came c.args.way.grain c.args.way.whole c.args.command.now c.args.entry.now (untrue c.is_of_command.result c.if-not-is_of_command.true c.is_of_command.ensures) c.args.after.now.items

pub returns-then-wants_memory : goal.returns-then-wants_memory
returns-then-wants_memory c =
    on_ok_weaker c.follow_wanting.result
    (wanting_came c.args.way.grain c.args.way.whole c.args.command.now c.args.entry.now (c.is_of_command.ensures.0 c.if-not-is_of_command.false) (c.wants_memory.ensures.0 c.if-wants_memory.true) c.args.after.now.items c.follow_wanting.new.after.items)
    c.follow_wanting.ensures
