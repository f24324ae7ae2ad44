use Rattle.std.proofs.Common.{◌∙◌, length, true, false, ap, arith}
use Rattle.std.specs.List.{insert}
use Rattle.fc_pick.proofs.Rows.{there_within, set_there, insert_there, place_within, placed_in, told_of}
use Rattle.fc_desk.proofs.Without.{inserted}
use Rattle.fc_desk.proofs.flags.put_row.Goals as goal

pub index_mut-requires : goal.index_mut-requires
index_mut-requires c = omega (arith, there_within c.args.row.map.0 c.args.flags.now.items c.requires.rising c.place_of-place.result (placed_in c.args.row.map.0 c.args.flags.now.items c.place_of-place.result c.deref.ensures.value c.place_of-place.ensures) (told_of c.args.row.map.0 c.args.flags.now.items true c.deref-2.ensures.value c.is_at.ensures c.if-is_at.true), c.deref.ensures.len, ap length c.deref.ensures.value)

pub returns-then-is_at-clause-items : goal.returns-then-is_at-clause-items
returns-then-is_at-clause-items c = set_there c.args.row c.args.flags.now.items c.requires.rising c.place_of-place.result (placed_in c.args.row.map.0 c.args.flags.now.items c.place_of-place.result c.deref.ensures.value c.place_of-place.ensures) (told_of c.args.row.map.0 c.args.flags.now.items true c.deref-2.ensures.value c.is_at.ensures c.if-is_at.true)

pub insert-requires : goal.insert-requires
insert-requires c = omega (arith, place_within c.args.row.map.0 c.args.flags.now.items c.requires.rising c.place_of-place.result (placed_in c.args.row.map.0 c.args.flags.now.items c.place_of-place.result c.deref.ensures.value c.place_of-place.ensures), c.deref.ensures.len, ap length c.deref.ensures.value)

pub returns-clause-items : goal.returns-clause-items
returns-clause-items c =
    inserted c.insert.result c.insert.new.self.items (insert c.args.flags.now.items c.place_of-place.result c.args.row) c.args.flags.now.items (c.insert.ensures.succeeds c.requires.room) c.insert.ensures.items
    ∙ insert_there c.args.row c.args.flags.now.items c.requires.rising c.place_of-place.result (placed_in c.args.row.map.0 c.args.flags.now.items c.place_of-place.result c.deref.ensures.value c.place_of-place.ensures) (told_of c.args.row.map.0 c.args.flags.now.items false c.deref-2.ensures.value c.is_at.ensures c.if-is_at.false)
