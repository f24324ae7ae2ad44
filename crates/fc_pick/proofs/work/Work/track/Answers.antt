use Rattle.std.proofs.Common.{sym, ◌∙◌, ◌≡◌, true, false, refl, ap}
use Rattle.fc_pick.specs.Flags.{has_mapping}
use Rattle.fc_pick.proofs.Rows.{put_rising, put_plain, put_numbers, known_seen, numbers_kept}
use Rattle.fc_pick.proofs.work.Work.track.Goals as goal

pub returns-then-has_row-clause-ok : goal.returns-then-has_row-clause-ok
returns-then-has_row-clause-ok c =
    let there : has_mapping c.args.map.0 c.self.inside.rows.items ≡ true = ap (has_mapping c.args.map.0) (sym c.as_slice.ensures.value) ∙ (sym c.has_row.ensures ∙ c.if-has_row.true) in
    numbers_kept c.args.map.0 c.self.inside.rows.items c.args.self.now c.self.view_is c.self.invariant there

pub invariant_of-self : goal.invariant_of-self
invariant_of-self c =
    put_rising c.put_row.new.rows.items c.self.inside.rows.items (record { map = c.args.map; copies = false; cleans = false }) c.args.self.now c.self.view_is c.put_row.result c.self.invariant c.put_row.ensures.ok c.put_row.ensures.err

pub returns-clause-flags : goal.returns-clause-flags
returns-clause-flags c =
    let absent : has_mapping c.args.map.0 c.self.inside.rows.items ≡ false = ap (has_mapping c.args.map.0) (sym c.as_slice.ensures.value) ∙ (sym c.has_row.ensures ∙ c.if-has_row.false) in
    put_plain c.put_row.new.rows.items c.self.inside.rows.items (record { map = c.args.map; copies = false; cleans = false }) c.args.self.now c.self.view_is c.put_row.result c.self.invariant absent refl c.put_row.ensures.ok c.put_row.ensures.err

pub returns-clause-ok : goal.returns-clause-ok
returns-clause-ok c =
    put_numbers c.put_row.new.rows.items c.self.inside.rows.items (record { map = c.args.map; copies = false; cleans = false }) c.args.self.now c.self.view_is c.put_row.result c.put_row.ensures.ok

pub returns-clause-known : goal.returns-clause-known
returns-clause-known c known =
    c.put_row.ensures.there (sym (known_seen c.args.map c.self.inside.rows.items c.args.self.now c.self.view_is) ∙ known)
