use Rattle.std.proofs.Common.{sym, ◌∙◌, arith}
use Rattle.fc_diff.proofs.Places.{place_among, place_behind, place_nowhere}
use Rattle.fc_diff.proofs.table.find_place.Goals as goal

pub returns-in-Some : goal.returns-in-Some
returns-in-Some c =
    sym (place_among c.args.map c.args.ids.now.keys c.args.rows.now c.requires c.in-Some.place (sym c.get_index_of.ensures.index ∙ c.in-Some.is) (omega (arith, c.if-place-rows.true)))

pub returns-in_default : goal.returns-in_default
returns-in_default c =
    sym (place_behind c.args.map c.args.ids.now.keys c.args.rows.now c.requires c.in-Some.place (sym c.get_index_of.ensures.index ∙ c.in-Some.is) (omega (arith, c.if-place-rows.false)))

pub returns-in_default-2 : goal.returns-in_default-2
returns-in_default-2 c = sym (place_nowhere c.args.map c.args.ids.now.keys c.args.rows.now c.requires (sym c.get_index_of.ensures.index ∙ c.in_default.is))
