use Rattle.std.proofs.lemmas.Result.{on_ok_weaker}
use Rattle.fc_check_follow.proofs.Commanding.{unsettled_none, unsettled_one}
use Rattle.fc_check_follow.proofs.Tests.{untrue}
use Rattle.fc_check_follow.proofs.command.follow_unsettled.Goals as goal

pub returns-then-has_no_effects : goal.returns-then-has_no_effects
returns-then-has_no_effects c =
    on_ok_weaker c.keep_one_more.result
    (unsettled_one c.args.way c.args.entry.now c.args.after.now.items c.keep_one_more.new.after.items (c.has_no_effects.ensures.0 c.if-has_no_effects.true))
    c.keep_one_more.ensures

pub returns-else-has_no_effects : goal.returns-else-has_no_effects
returns-else-has_no_effects c = unsettled_none c.args.way c.args.entry.now c.args.after.now.items (untrue c.has_no_effects.result c.if-has_no_effects.false c.has_no_effects.ensures)
