use Rattle.std.proofs.Common.{◌≡◌, ◌+◌, Bool, List, length, ap, sym, subst, ◌∙◌, arith}
use Rattle.fc_base.specs.Need.{ReadsAt}
use Rattle.fc_check_sheet.specs.Needs.{AddsMarks}
use Rattle.fc_check_sheet.proofs.Needing.{NeededBelow, written, needed_more, all_needed}
use Rattle.fc_check_sheet.proofs.unneeded.needed_places.Goals as goal

pub loop-place-preserved : goal.loop-place-preserved
loop-place-preserved c =
    let value : c.deref_mut.result.now ≡ c.loop-place.needed.items = c.deref_mut.ensures.value in
    let long : length c.mark_needs.new.needed ≡ length c.loop-place.needed.items = c.mark_needs.ensures.long ∙ ap length value in
    let size : c.loop-place.needed.len ≡ length c.loop-place.needed.items = omega arith in
    let P : List Bool → Type 0 = λ z. NeededBelow c.args.sheet.now.slots (c.loop-place.place + 1) z in
    let Q : List Bool → Type 0 = λ z. AddsMarks (λ k. ReadsAt c.args.sheet.now.slots k k c.loop-place.place) z c.mark_needs.new.needed in
    subst P (sym (written c.loop-place.needed.items c.mark_needs.new.needed c.loop-place.needed.len size long))
    (needed_more c.args.sheet.now.slots c.loop-place.place c.loop-place.needed.items c.mark_needs.new.needed (subst Q value c.mark_needs.ensures) c.loop-place.invariant)

pub returns : goal.returns
returns c = all_needed c.args.sheet.now.slots c.loop-place.place c.loop-place.needed.items (omega arith) c.loop-place.invariant
