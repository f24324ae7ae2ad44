use Rattle.std.proofs.Common.{◌<◌, ◌≢◌, ◌+◌, ◌≤◌, ◌++◌, false, refl, sym, ◌∙◌, ap, subst, arith, append-nil, take_all, get_or-set_other, get_or-set_same, below_more}
use mathlib.Core.Option.{some}
use Rattle.std.specs.Slots.{slots_items, slots_filled, slots_counts}
use Rattle.fc_yard.specs.Homes.{AllHome, homes_of}
use Rattle.fc_yard.proofs.Housing.{home_at, gathered}
use Rattle.fc_yard.proofs.opening.gather.Goals as goal

pub loop-place-init : goal.loop-place-init
loop-place-init g c = record {
  full = c.requires.full;
  empty = λ k low. absurd (omega arith);
  same = (refl, refl);
  kept = sym (append-nil c.args.parts.now.items);
  room = omega (arith, c.requires.room);
}

pub take-requires : goal.take-requires
take-requires g c =
    let h = c.loop-place.invariant in let near = c.loop-place-test.true in let end = c.slot_count-place-end.ensures in
    (omega (arith, h.same.1, near, end), h.full c.loop-place.place (omega arith) (omega (arith, h.same.1, near, end)))

pub push_reserved-requires : goal.push_reserved-requires
push_reserved-requires g c = omega (arith, c.loop-place.invariant.room, c.loop-place-test.true, c.slot_count-place-end.ensures)

pub free-requires : goal.free-requires
free-requires g c = λ k low. c.loop-place.invariant.empty k (omega (arith, low, c.loop-place.invariant.same.1, c.loop-place-test.false, c.slot_count-place-end.ensures))

pub returns : goal.returns
returns g c =
    let h = c.loop-place.invariant in let items = slots_items c.args.closed.slots in
    let all = take_all c.loop-place.place items (omega (arith, (slots_counts c.args.closed.slots).0, c.loop-place-test.false, c.slot_count-place-end.ensures)) in
    h.kept ∙ ap (λ l. c.args.parts.now.items ++ homes_of l) all

pub into_part-requires : goal.into_part-requires
into_part-requires g c =
    let now = c.loop-place.closed.slots in let home = subst AllHome (sym c.loop-place.invariant.same.0) c.requires.home in
    let here = home_at (slots_items now) c.loop-place.place c.take.result home c.take.ensures.value in
    (here.0, here.1)

pub loop-place-preserved : goal.loop-place-preserved
loop-place-preserved g c =
    let h = c.loop-place.invariant in let others = c.take.ensures.others in let now = c.loop-place.closed.slots in let place = c.loop-place.place in let pushed = c.push_reserved.ensures in
    let items = slots_items c.args.closed.slots in let filled = slots_filled now in let near = c.loop-place-test.true in let end = c.slot_count-place-end.ensures in
    record {
      full = λ k low high. let apart : k ≢ place = omega arith in
          ap (λ fs. Rattle.std.proofs.Common.get_or fs k false) others.1 ∙ get_or-set_other filled place k false false apart ∙ h.full k (omega arith) (omega (arith, others.2, high));
      empty = below_more _ _ (λ k low. let apart : k ≢ place = omega arith in ap (λ fs. Rattle.std.proofs.Common.get_or fs k false) others.1 ∙ get_or-set_other filled place k false false apart ∙ h.empty k low)
          (ap (λ fs. Rattle.std.proofs.Common.get_or fs place false) others.1 ∙ get_or-set_same filled place false false (omega (arith, (slots_counts now).1, h.same.1, near, end)));
      same = (others.0 ∙ h.same.0, others.2 ∙ h.same.1);
      kept = gathered c.loop-place.parts.items c.push_reserved.new.self.items c.args.parts.now.items items place c.into_part.result c.requires.home
          (ap (λ l. lib.ListN.get_elem? l place) (sym h.same.0) ∙ c.take.ensures.value ∙ ap some c.into_part.ensures) h.kept pushed.items;
      room = omega (arith, h.room, pushed.len, pushed.capacity, near, end);
    }
