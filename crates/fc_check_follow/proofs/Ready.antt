-- What may be asked of a way that was reached.
use Rattle.std.proofs.Common.{◌≡◌, ℕ, ◌+◌, ◌*◌, ◌^◌, ◌<◌, Option, List, refl, sym, subst, arith}
use Rattle.fc_base.specs.declared.command.Command.{Command}
use Rattle.fc_base.specs.declared.decision.Decision.{Decision}
use Rattle.fc_base.specs.declared.ids.VolId.{VolId}
use Rattle.fc_base.specs.declared.size.GrainSize.{GrainSize}
use Rattle.fc_books.specs.Deciding.{IsLoopOf, settle}
use Rattle.fc_legal.specs.Steps.{after_settling, decided_on}
use Rattle.fc_legal.specs.Whole.{Whole}
use Rattle.law_stands.specs.Deciders.{CanDecide, CanLeave}
use Rattle.fc_check_sheet.specs.View.{IsSmall}
use Rattle.fc_check_record.specs.Judged.{Judged}
use Rattle.fc_check_record.specs.Leaving.{CanBeLeft}
use Rattle.fc_check_follow.specs.Following.{IsOpen, IsSettled}
use Rattle.fc_check_follow.proofs.Commanding.{IsDecision, left_on}
use Rattle.fc_check_follow.proofs.Laws.{deciders, stands}

pub small_of : (w : Whole) → CanDecide w → IsSmall w.books.sheet.slots w.rows
small_of w can = record { held = λ k. omega (arith, can.held k); restarts = λ m. omega (arith, can.restart m) }

left_of : (grain : GrainSize) (n : ℕ) (w : Whole) (d : Decision) → n < 2 ^ 32 → CanLeave grain n w d → CanBeLeft w d
left_of grain n w d few can =
    record { fits = can.fits; one = can.one; countable = can.countable; triggers = can.lawful.triggers; births = omega (arith, few, can.lawful.stands.few.births) }

-- ---- before a command

pub open_can : (w : Whole) → IsOpen w → CanDecide w
open_can w at = deciders.can_decide (2 * w.entries) w (omega (arith, at.few)) at.reached

pub settling_left : (grain : GrainSize) (w : Whole) (d : Decision) → IsOpen w → d ≡ settle w.books → CanBeLeft w d
settling_left grain w d at is =
    subst (λ (x : Decision). CanBeLeft w x) (sym is) (left_of grain (2 * w.entries) w (settle w.books) (omega (arith, at.few)) (deciders.settling grain (2 * w.entries) w (omega (arith, at.few)) at.reached))

pub settled_is : (way settled : Judged) (d : Decision) → IsOpen way.whole → d ≡ settle way.whole.books → settled ≡ left_on way d → IsSettled settled
settled_is way settled d at is left =
    let here : IsSettled (left_on way (settle way.whole.books)) = record { before = way.whole; is_open = at; whole_is = refl } in
    subst IsSettled (sym left) (subst (λ (x : Decision). IsSettled (left_on way x)) (sym is) here)

-- ---- settled

pub settled_can : (way : Judged) → IsSettled way → CanDecide way.whole
settled_can way at =
    subst CanDecide (sym at.whole_is)
    (deciders.can_decide (2 * at.before.entries + 1) (after_settling way.grain at.before) (omega (arith, at.is_open.few))
    (stands.settled way.grain (2 * at.before.entries) at.before (omega (arith, at.is_open.few)) at.is_open.reached))

deciding_here : (grain : GrainSize) (before : Whole) (command : Command) (loop : Option (List VolId)) → IsOpen before → IsLoopOf grain (after_settling grain before).books command loop →
    CanBeLeft (after_settling grain before) (decided_on grain (after_settling grain before) command loop)
deciding_here grain before command loop at is_loop =
    left_of grain (2 * before.entries + 1) (after_settling grain before) (decided_on grain (after_settling grain before) command loop) (omega (arith, at.few))
    (deciders.deciding grain (2 * before.entries) before command loop (omega (arith, at.few)) at.reached is_loop)

pub deciding_left : (way : Judged) (command : Command) (d : Decision) → IsSettled way → IsDecision way command d → CanBeLeft way.whole d
deciding_left way command d at asked =
    let P : Whole → Type 0 = λ v. (loop : Option (List VolId)) → IsLoopOf way.grain v.books command loop → CanBeLeft v (decided_on way.grain v command loop) in
    let here : P way.whole = subst P (sym at.whole_is) (λ loop is_loop. deciding_here way.grain at.before command loop at.is_open is_loop) in
    subst (λ (x : Decision). CanBeLeft way.whole x) (sym asked.decision_is) (here asked.loop asked.is_loop)

pub settled_few : (way : Judged) → IsSettled way → way.whole.entries < 262144
settled_few way at = subst (λ (v : Whole). v.entries < 262144) (sym at.whole_is) at.is_open.few

pub left_few : (way left : Judged) (d : Decision) → left ≡ left_on way d → way.whole.entries < 262144 → left.whole.entries < 262144
left_few way left d is few = subst (λ (j : Judged). j.whole.entries < 262144) (sym is) few

-- ---- a copy of a way

pub copied_left : (way copied : Judged) (d : Decision) → IsOpen way.whole → d ≡ settle way.whole.books → copied ≡ way → CanBeLeft copied.whole d
copied_left way copied d at is same = subst (λ (j : Judged). CanBeLeft j.whole d) (sym same) (settling_left way.grain way.whole d at is)

pub copied_few : (way copied settled : Judged) (d : Decision) → IsOpen way.whole → copied ≡ way → settled ≡ left_on copied d → settled.whole.entries < 262144
copied_few way copied settled d at same left = left_few copied settled d left (subst (λ (j : Judged). j.whole.entries < 262144) (sym same) at.few)
