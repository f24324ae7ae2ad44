use Rattle.std.proofs.Common.{◌∙◌, length, true, false, ap, arith}
use Rattle.fc_pick.proofs.Rows.{there_within, placed_in, told_of}
use Rattle.fc_desk.proofs.Without.{taken_at, none_out}
use Rattle.fc_desk.proofs.flags.clear_flags.Goals as goal

pub remove-requires : goal.remove-requires
remove-requires c = omega (arith, there_within c.args.map.0 c.args.flags.now.items c.requires c.place_of-place.result (placed_in c.args.map.0 c.args.flags.now.items c.place_of-place.result c.deref.ensures.value c.place_of-place.ensures) (told_of c.args.map.0 c.args.flags.now.items true c.deref-2.ensures.value c.is_at.ensures c.if-is_at.true), c.deref.ensures.len, ap length c.deref.ensures.value)

pub returns-then-is_at-clause-items : goal.returns-then-is_at-clause-items
returns-then-is_at-clause-items c =
    c.remove.ensures.by_index.2 ∙ taken_at c.args.map c.args.flags.now.items c.requires (told_of c.args.map.0 c.args.flags.now.items true c.deref-2.ensures.value c.is_at.ensures c.if-is_at.true) c.remove.result c.place_of-place.result (placed_in c.args.map.0 c.args.flags.now.items c.place_of-place.result c.deref.ensures.value c.place_of-place.ensures)

pub returns-else-is_at-clause-items : goal.returns-else-is_at-clause-items
returns-else-is_at-clause-items c = none_out c.args.map c.args.flags.now.items c.requires (told_of c.args.map.0 c.args.flags.now.items false c.deref-2.ensures.value c.is_at.ensures c.if-is_at.false)
