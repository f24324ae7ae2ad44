use Rattle.std.proofs.Common.{◌+◌, ◌*◌, ◌≤◌, length, sym, ap, ◌∙◌, arith, rules, refl}
use Rattle.fc_mdisk.proofs.Cuts.{ends_in_buffer, part_is}
use Rattle.fc_mdisk.proofs.flat.FlatGrainsGrains.read.Goals as goal

pub slice_bounds-copy_from_slice-end : goal.slice_bounds-copy_from_slice-end
slice_bounds-copy_from_slice-end c =
    let within : c.args.grain * c.self.inside.width + c.self.inside.width ≤ length c.self.inside.buffer.items =
    ends_in_buffer c.self.inside.count c.self.inside.width c.args.grain c.self.inside.buffer.items _ c.self.view_is (omega arith) c.requires.in_range in
    search rules

pub copy_from_slice-requires : goal.copy_from_slice-requires
copy_from_slice-requires c =
    c.requires.whole
    ∙ ap length (sym (part_is c.self.inside.count c.self.inside.width c.args.grain c.self.inside.buffer.items _ c.self.view_is (omega arith) c.requires.in_range))
    ∙ rw c.deref.ensures.value refl

pub returns : goal.returns
returns c =
    c.copy_from_slice.ensures.after
    ∙ rw c.deref.ensures.value (part_is c.self.inside.count c.self.inside.width c.args.grain c.self.inside.buffer.items _ c.self.view_is (omega arith) c.requires.in_range)
