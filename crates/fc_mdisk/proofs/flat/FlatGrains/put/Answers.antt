use Rattle.std.proofs.Common.{◌≡◌, ℕ, ◌+◌, ◌*◌, ◌≤◌, List, length, ap, ◌∙◌, arith, rules, refl}
use Rattle.std.proofs.lemmas.List.{with_items_is}
use Rattle.fc_mdisk.specs.Disk.{grain_at}
use Rattle.fc_mdisk.specs.Cut.{cut}
use Rattle.fc_mdisk.proofs.Cuts.{ends_in_buffer, length-grain, length-written, written_is}
use Rattle.fc_mdisk.proofs.flat.FlatGrains.put.Goals as goal

pub overflow_add-start : goal.overflow_add-start
overflow_add-start c =
    let within : c.args.grain * c.self.inside.width + c.self.inside.width ≤ length c.self.inside.buffer.items =
    ends_in_buffer c.self.inside.count c.self.inside.width c.args.grain c.self.inside.buffer.items _ c.self.view_is (omega arith) c.requires.in_range in
    let size : length (grain_at c.args.self.now c.args.grain) ≡ c.self.inside.width =
    length-grain c.self.inside.count c.self.inside.width c.args.grain c.self.inside.buffer.items _ c.self.view_is (omega arith) c.requires.in_range in
    search rules

pub slice_bounds-copy_from_slice-end : goal.slice_bounds-copy_from_slice-end
slice_bounds-copy_from_slice-end c =
    let within : c.args.grain * c.self.inside.width + c.self.inside.width ≤ length c.self.inside.buffer.items =
    ends_in_buffer c.self.inside.count c.self.inside.width c.args.grain c.self.inside.buffer.items _ c.self.view_is (omega arith) c.requires.in_range in
    let size : length (grain_at c.args.self.now c.args.grain) ≡ c.self.inside.width =
    length-grain c.self.inside.count c.self.inside.width c.args.grain c.self.inside.buffer.items _ c.self.view_is (omega arith) c.requires.in_range in
    search rules

pub returns : goal.returns
returns c =
    let size : length (grain_at c.args.self.now c.args.grain) ≡ c.self.inside.width =
    length-grain c.self.inside.count c.self.inside.width c.args.grain c.self.inside.buffer.items _ c.self.view_is (omega arith) c.requires.in_range in
    let fits : length c.args.front.now ≤ c.self.inside.width = omega arith in
    let same : length c.self.inside.buffer.items ≡ c.self.inside.buffer.len = omega arith in
    ap (λ (bytes : List ℕ). cut c.self.inside.count c.self.inside.width bytes)
    (with_items_is c.self.inside.buffer _
    (rw (c.deref_mut.ensures.value, c.copy_from_slice.ensures.after)
    (length-written c.self.inside.count c.self.inside.width c.args.grain c.self.inside.buffer.items _ c.self.view_is (omega arith) c.requires.in_range
    c.args.front.now (c.args.grain * c.self.inside.width + length c.args.front.now) fits refl ∙ same)))
    ∙ rw (c.deref_mut.ensures.value, c.copy_from_slice.ensures.after)
    (written_is c.self.inside.count c.self.inside.width c.args.grain c.self.inside.buffer.items _ c.self.view_is (omega arith) c.requires.in_range
    c.args.front.now (c.args.grain * c.self.inside.width + length c.args.front.now) fits refl)
