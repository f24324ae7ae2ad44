use Rattle.std.proofs.Common.{◌∙◌, length, true, false, ap, arith}
use Rattle.fc_pick.proofs.Rows.{there_within, set_there, insert_there, place_within, placed_in, told_of}
use Rattle.fc_pick.proofs.work.put_row.Goals as goal

pub index_mut-requires : goal.index_mut-requires
index_mut-requires c = omega (arith, there_within c.args.row.map.0 c.args.rows.now.items c.requires c.place_of-place.result (placed_in c.args.row.map.0 c.args.rows.now.items c.place_of-place.result c.deref.ensures.value c.place_of-place.ensures) (told_of c.args.row.map.0 c.args.rows.now.items true c.deref-2.ensures.value c.is_at.ensures c.if-is_at.true), c.deref.ensures.len, ap length c.deref.ensures.value)

pub returns-then-is_at-clause-ok : goal.returns-then-is_at-clause-ok
returns-then-is_at-clause-ok c = set_there c.args.row c.args.rows.now.items c.requires c.place_of-place.result (placed_in c.args.row.map.0 c.args.rows.now.items c.place_of-place.result c.deref.ensures.value c.place_of-place.ensures) (told_of c.args.row.map.0 c.args.rows.now.items true c.deref-2.ensures.value c.is_at.ensures c.if-is_at.true)

pub insert-requires : goal.insert-requires
insert-requires c = omega (arith, place_within c.args.row.map.0 c.args.rows.now.items c.requires c.place_of-place.result (placed_in c.args.row.map.0 c.args.rows.now.items c.place_of-place.result c.deref.ensures.value c.place_of-place.ensures), c.deref.ensures.len, ap length c.deref.ensures.value)

pub returns-in-Ok-clause-ok : goal.returns-in-Ok-clause-ok
returns-in-Ok-clause-ok c = c.in-Ok.ensures.items ∙ insert_there c.args.row c.args.rows.now.items c.requires c.place_of-place.result (placed_in c.args.row.map.0 c.args.rows.now.items c.place_of-place.result c.deref.ensures.value c.place_of-place.ensures) (told_of c.args.row.map.0 c.args.rows.now.items false c.deref-2.ensures.value c.is_at.ensures c.if-is_at.false)
