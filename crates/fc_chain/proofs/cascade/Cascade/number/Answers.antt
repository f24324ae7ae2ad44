use Rattle.std.proofs.Common.{◌<◌, ◌+◌, ◌*◌, ◌^◌, List, length, sym, subst, arith}
use Rattle.fc_base.specs.Sheet.{Slot, slot_at}
use Rattle.fc_chain.proofs.cascade.Cascade.number.Goals as goal

pub overflow_mul-result : goal.overflow_mul-result
overflow_mul-result c =
    let below = subst (λ (z : List Slot). c.args.place < length (slot_at z c.place_of.result).held) (sym c.slots-slots.ensures.value) (c.requires.inside c.place_of.result c.place_of.ensures.value) in
    let there = subst (λ (z : List Slot). c.place_of.result < length z) (sym c.slots-slots.ensures.value) c.place_of.ensures.bound in
    let fits = subst (λ z. c.args.place * z.lanes + z.lane < 2 ^ 32) (sym c.self.view_is) (c.slots-slots.ensures.numbered c.place_of.result c.args.place there below) in
    omega (arith, fits)

pub overflow_add-result : goal.overflow_add-result
overflow_add-result c =
    let below = subst (λ (z : List Slot). c.args.place < length (slot_at z c.place_of.result).held) (sym c.slots-slots.ensures.value) (c.requires.inside c.place_of.result c.place_of.ensures.value) in
    let there = subst (λ (z : List Slot). c.place_of.result < length z) (sym c.slots-slots.ensures.value) c.place_of.ensures.bound in
    let fits = subst (λ z. c.args.place * z.lanes + z.lane < 2 ^ 32) (sym c.self.view_is) (c.slots-slots.ensures.numbered c.place_of.result c.args.place there below) in
    omega (arith, fits)
