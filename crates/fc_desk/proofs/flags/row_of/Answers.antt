use Rattle.std.proofs.Common.{rules, sym, ◌∙◌, ◌<◌, length}
use Rattle.fc_pick.proofs.Rows.{there_within}
use Rattle.fc_desk.proofs.Rows.{row_found, none_found}
use Rattle.fc_desk.proofs.flags.row_of.Goals as goal

pub offset_bounds-rows-place : goal.offset_bounds-rows-place
offset_bounds-rows-place c =
    let within : c.place_of-place.result < length c.args.rows.now =
    there_within c.args.mapping.now.id.0 c.args.rows.now c.requires c.place_of-place.result c.place_of-place.ensures (sym c.is_at.ensures ∙ c.if-is_at.true) in
    search (rules, within)

pub bounds-rows-place : goal.bounds-rows-place
bounds-rows-place c =
    there_within c.args.mapping.now.id.0 c.args.rows.now c.requires c.place_of-place.result c.place_of-place.ensures (sym c.is_at.ensures ∙ c.if-is_at.true)

pub returns-then-is_at : goal.returns-then-is_at
returns-then-is_at c =
    row_found c.args.mapping.now.id.0 c.args.rows.now c.requires c.place_of-place.result c.place_of-place.ensures (sym c.is_at.ensures ∙ c.if-is_at.true) _

pub returns-else-is_at : goal.returns-else-is_at
returns-else-is_at c = sym (none_found c.args.mapping.now.id.0 c.args.rows.now (sym c.is_at.ensures ∙ c.if-is_at.false))
