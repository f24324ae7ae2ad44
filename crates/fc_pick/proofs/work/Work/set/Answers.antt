use Rattle.std.proofs.Common.{sym, ◌∙◌}
use Rattle.fc_pick.proofs.Rows.{put_rising, put_flags, put_numbers, known_seen}
use Rattle.fc_pick.proofs.work.Work.set.Goals as goal

pub invariant_of-self : goal.invariant_of-self
invariant_of-self c =
    put_rising c.put_row.new.rows.items c.self.inside.rows.items (record { map = c.args.map; copies = c.args.copies; cleans = c.args.cleans }) c.args.self.now c.self.view_is c.put_row.result c.self.invariant c.put_row.ensures.ok c.put_row.ensures.err

pub returns-clause-flags : goal.returns-clause-flags
returns-clause-flags c =
    put_flags c.put_row.new.rows.items c.self.inside.rows.items (record { map = c.args.map; copies = c.args.copies; cleans = c.args.cleans }) c.args.self.now c.self.view_is c.put_row.result c.put_row.ensures.ok

pub returns-clause-numbers : goal.returns-clause-numbers
returns-clause-numbers c =
    put_numbers c.put_row.new.rows.items c.self.inside.rows.items (record { map = c.args.map; copies = c.args.copies; cleans = c.args.cleans }) c.args.self.now c.self.view_is c.put_row.result c.put_row.ensures.ok

pub returns-clause-known : goal.returns-clause-known
returns-clause-known c known =
    c.put_row.ensures.there (sym (known_seen c.args.map c.self.inside.rows.items c.args.self.now c.self.view_is) ∙ known)
