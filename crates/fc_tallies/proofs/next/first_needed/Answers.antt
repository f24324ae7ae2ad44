use Rattle.std.proofs.Common.{◌+◌, ◌-◌, ◌<◌, ◌≤◌, ◌∙◌, sym, ap, length, arith}
use Rattle.fc_base.specs.Sheet.{Slot}
use Rattle.fc_slots.proofs.Finds.{read_at}
use Rattle.fc_tallies.proofs.Nexts.{AreLeft, IsNextLeft, left_are, none_left, none_at_end, left_next, found_left, passed_left}
use Rattle.fc_tallies.proofs.next.first_needed.Goals as goal

pub returns-in_default-clause-value : goal.returns-in_default-clause-value
returns-in_default-clause-value c =
    let left : AreLeft c.args.slots.now c.args.place c.args.reader c.held-held.result.now c.held-lacking.result.now = left_are c.args.slots.now c.args.place c.args.reader c.index-slots-place.result c.index-slots-reader.result c.held-held.result.now c.held-lacking.result.now c.requires.sizes c.requires.next c.requires.there c.index-slots-place.is c.index-slots-reader.is c.held-held.ensures c.held-lacking.ensures in
    (none_left c.args.slots.now c.args.place c.args.reader c.loop-from.from c.held-held.result.now c.held-lacking.result.now left c.loop-from.invariant (sym c.in_default.is ∙ c.next_in_difference.ensures)).value

pub returns-then-is_some-clause-value : goal.returns-then-is_some-clause-value
returns-then-is_some-clause-value c =
    let left : AreLeft c.args.slots.now c.args.place c.args.reader c.held-held.result.now c.held-lacking.result.now = left_are c.args.slots.now c.args.place c.args.reader c.index-slots-place.result c.index-slots-reader.result c.held-held.result.now c.held-lacking.result.now c.requires.sizes c.requires.next c.requires.there c.index-slots-place.is c.index-slots-reader.is c.held-held.ensures c.held-lacking.ensures in
    let next : IsNextLeft c.args.slots.now c.args.place c.loop-from.from c.in-Some.grain c.held-held.result.now = left_next c.args.slots.now c.args.place c.args.reader c.loop-from.from c.in-Some.grain c.held-held.result.now c.held-lacking.result.now left c.loop-from.invariant (sym c.in-Some.is ∙ c.next_in_difference.ensures) in
    (found_left c.args.slots.now c.args.place c.loop-from.from c.in-Some.grain c.held-held.result.now c.first_reader_of.result left.held_is next c.first_reader_of.ensures.value (sym c.is_some.ensures ∙ c.if-is_some.true)).value

pub returns-then-is_some-clause-bound : goal.returns-then-is_some-clause-bound
returns-then-is_some-clause-bound c =
    let left : AreLeft c.args.slots.now c.args.place c.args.reader c.held-held.result.now c.held-lacking.result.now = left_are c.args.slots.now c.args.place c.args.reader c.index-slots-place.result c.index-slots-reader.result c.held-held.result.now c.held-lacking.result.now c.requires.sizes c.requires.next c.requires.there c.index-slots-place.is c.index-slots-reader.is c.held-held.ensures c.held-lacking.ensures in
    let next : IsNextLeft c.args.slots.now c.args.place c.loop-from.from c.in-Some.grain c.held-held.result.now = left_next c.args.slots.now c.args.place c.args.reader c.loop-from.from c.in-Some.grain c.held-held.result.now c.held-lacking.result.now left c.loop-from.invariant (sym c.in-Some.is ∙ c.next_in_difference.ensures) in
    (found_left c.args.slots.now c.args.place c.loop-from.from c.in-Some.grain c.held-held.result.now c.first_reader_of.result left.held_is next c.first_reader_of.ensures.value (sym c.is_some.ensures ∙ c.if-is_some.true)).bound

pub overflow_add-from : goal.overflow_add-from
overflow_add-from c =
    let left : AreLeft c.args.slots.now c.args.place c.args.reader c.held-held.result.now c.held-lacking.result.now = left_are c.args.slots.now c.args.place c.args.reader c.index-slots-place.result c.index-slots-reader.result c.held-held.result.now c.held-lacking.result.now c.requires.sizes c.requires.next c.requires.there c.index-slots-place.is c.index-slots-reader.is c.held-held.ensures c.held-lacking.ensures in
    let next : IsNextLeft c.args.slots.now c.args.place c.loop-from.from c.in-Some.grain c.held-held.result.now = left_next c.args.slots.now c.args.place c.args.reader c.loop-from.from c.in-Some.grain c.held-held.result.now c.held-lacking.result.now left c.loop-from.invariant (sym c.in-Some.is ∙ c.next_in_difference.ensures) in
    let below : c.in-Some.grain < length c.held-held.result.now = next.below in
    omega (arith, c.len-grains.ensures)

pub loop-from-smaller : goal.loop-from-smaller
loop-from-smaller c =
    let left : AreLeft c.args.slots.now c.args.place c.args.reader c.held-held.result.now c.held-lacking.result.now = left_are c.args.slots.now c.args.place c.args.reader c.index-slots-place.result c.index-slots-reader.result c.held-held.result.now c.held-lacking.result.now c.requires.sizes c.requires.next c.requires.there c.index-slots-place.is c.index-slots-reader.is c.held-held.ensures c.held-lacking.ensures in
    let next : IsNextLeft c.args.slots.now c.args.place c.loop-from.from c.in-Some.grain c.held-held.result.now = left_next c.args.slots.now c.args.place c.args.reader c.loop-from.from c.in-Some.grain c.held-held.result.now c.held-lacking.result.now left c.loop-from.invariant (sym c.in-Some.is ∙ c.next_in_difference.ensures) in
    let below : c.in-Some.grain < length c.held-held.result.now = next.below in
    let on : c.loop-from.from ≤ c.in-Some.grain = next.from_on in
    let less : length c.held-held.result.now - (c.in-Some.grain + 1) < length c.held-held.result.now - c.loop-from.from = omega arith in
    less

pub loop-from-preserved : goal.loop-from-preserved
loop-from-preserved c =
    let left : AreLeft c.args.slots.now c.args.place c.args.reader c.held-held.result.now c.held-lacking.result.now = left_are c.args.slots.now c.args.place c.args.reader c.index-slots-place.result c.index-slots-reader.result c.held-held.result.now c.held-lacking.result.now c.requires.sizes c.requires.next c.requires.there c.index-slots-place.is c.index-slots-reader.is c.held-held.ensures c.held-lacking.ensures in
    let next : IsNextLeft c.args.slots.now c.args.place c.loop-from.from c.in-Some.grain c.held-held.result.now = left_next c.args.slots.now c.args.place c.args.reader c.loop-from.from c.in-Some.grain c.held-held.result.now c.held-lacking.result.now left c.loop-from.invariant (sym c.in-Some.is ∙ c.next_in_difference.ensures) in
    passed_left c.args.slots.now c.args.place c.loop-from.from c.in-Some.grain c.held-held.result.now c.first_reader_of.result next c.first_reader_of.ensures.value (sym c.is_some.ensures ∙ c.if-is_some.false)

pub returns-clause-value : goal.returns-clause-value
returns-clause-value c =
    let at : length c.held-held.result.now ≤ c.loop-from.from = omega (arith, c.len-grains.ensures, c.loop-from-test.false) in
    (none_at_end c.args.slots.now c.args.place c.loop-from.from c.held-held.result.now (c.held-held.ensures ∙ ap (λ (x : Slot). x.held) (sym (read_at c.args.slots.now c.args.place c.index-slots-place.result c.requires.there c.index-slots-place.is))) at c.loop-from.invariant).value
