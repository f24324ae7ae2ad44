use Rattle.std.proofs.Common.{sym, ◌∙◌}
use Rattle.fc_desk.proofs.Without.{with_some, with_none}
use Rattle.fc_desk.proofs.flags.set_flags.Goals as goal

pub returns-then-has_flag-clause-items : goal.returns-then-has_flag-clause-items
returns-then-has_flag-clause-items c =
    c.put_row.ensures.items ∙ with_some c.args.row c.args.flags.now.items (sym c.has_flag.ensures ∙ c.if-has_flag.true)

pub returns-else-has_flag-clause-items : goal.returns-else-has_flag-clause-items
returns-else-has_flag-clause-items c =
    c.clear_flags.ensures.items ∙ with_none c.args.row c.args.flags.now.items c.requires.rising (sym c.has_flag.ensures ∙ c.if-has_flag.false)
