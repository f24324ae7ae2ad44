-- An entry that began in its lane: its steps are those that its request has by all grains.
use Rattle.std.proofs.Common.{◌≡◌, ℕ, ◌<◌, false, Option, Some, List, refl, sym, ap, subst, ◌∙◌}
use Rattle.fc_base.specs.declared.size.GrainSize.{GrainSize}
use Rattle.fc_base.specs.declared.state.Access.TheVariants.{Online}
use Rattle.fc_kept.specs.Prefix.{AreFillSteps, AreStepsOf, AreWriteSteps}
use Rattle.fc_lane.specs.Doing.{CanWrite, FitsAsk, HasCome, IsUnderWay}
use Rattle.fc_lane.specs.Lane.{IsLaneOf, LaneView, of}
use Rattle.fc_lane.specs.declared.doing.Doing.{Doing}
use Rattle.fc_legal.specs.Whole.{Whole, as_one, lane_at, lanes, part_at}
use Rattle.fc_parts.proofs.Decisions.{part_follows}
use Rattle.fc_parts.proofs.Numbers.{IsOf}
use Rattle.fc_rules.specs.GrainAnswers.{cannot_write}
use Rattle.fc_rules.specs.LaneTold.{LaneOf, LaneVolume, lane_access}
use Rattle.fc_rules.specs.Spot.{Spot}
use Rattle.fc_rules.specs.Steps.{DiskStep, steps_of_fill, steps_of_write}
use Rattle.fc_steps.specs.Asking.{request_of}
use Rattle.fc_steps.specs.UnderWay.{AreUnderWay, CanOwn, grain_asked, slot_asked, steps_asked}
use Rattle.fc_steps.specs.declared.ask.Ask.{Ask}
use Rattle.fc_steps.specs.declared.ask.Ask.TheVariants.{Write, Copy, Clean}
use Rattle.law_crash.proofs.Making.{spot_in}
use Rattle.law_noted.proofs.Places.{fits_same, slot_all, slot_same, spot_all}

-- a write's volume is online by all grains
abbrev IsOnline : Whole → Ask → Type 0
IsOnline w (Write part) = lane_access (as_one w).volumes part.volume ≡ Online
IsOnline w (Copy m g) = Unit {0}
IsOnline w (Clean m g) = Unit {0}

online_by : (w : Whole) (v : LaneView) (ask : Ask) → v.accesses.volumes ≡ (as_one w).volumes → CanWrite v ask → IsOnline w ask
online_by w v (Write part) e can = subst (λ (vs : List LaneVolume). lane_access vs part.volume ≡ Online) e can.0
online_by w v (Copy m g) e can = tt
online_by w v (Clean m g) e can = tt

module _ (grain : GrainSize) (w : Whole) (i : ℕ) (il : i < lanes w) where
  -- what is asked of the lane's slot has these steps by all grains
  steps_by_ask : (ask : Ask) (x : ℕ) → IsOf (lane_at grain w i) (grain_asked (lane_at grain w i) ask) → slot_all grain w i il ask ≡ Some x → CanOwn (lane_at grain w i) (part_at grain w i) ask x → IsOnline w ask →
      AreStepsOf grain w (request_of ask) (steps_asked (lane_at grain w i) (spot_in grain w (request_of ask)) ask x)
  steps_by_ask (Write part) x is_of slot own online =
      let spot : Spot = spot_in grain w (request_of (Write part)) in
      let can : cannot_write grain spot part ≡ false =
      ap (λ (s : Spot). cannot_write grain s part) (sym (spot_all grain w i il (Write part) is_of)) ∙ own.writable in (
        online,
        subst (λ (o : Option ℕ). AreWriteSteps grain spot part o (steps_of_write grain spot part x)) (sym slot) (can, refl),
      )
  steps_by_ask (Copy m g) x is_of slot own online =
      let spot : Spot = spot_in grain w (request_of (Copy m g)) in
      subst (λ (o : Option ℕ). AreFillSteps spot o (steps_of_fill spot x)) (sym slot) refl
  steps_by_ask (Clean m g) x is_of slot own online =
      let spot : Spot = spot_in grain w (request_of (Clean m g)) in
      subst (λ (o : Option ℕ). AreFillSteps spot o (steps_of_fill spot x)) (sym slot) refl

module _ (grain : GrainSize) (w : Whole) (i : ℕ) (il : i < lanes w) (begun now : LaneView) (doing : Doing) (lane_is : of begun ≡ lane_at grain w i) (told : IsLaneOf begun (part_at grain w i)) (under : IsUnderWay begun doing now) where
  abbrev l : LaneOf
  l = lane_at grain w i

  fits : FitsAsk (of begun) doing.steps.ask (part_at grain w i)
  fits = fits_same (of begun) doing.steps.ask under.can.0 (part_at grain w i) (sym under.can.1.parts.sheet_is ∙ told.parts.sheet_is) under.can.2

  come : HasCome begun (part_at grain w i) doing now
  come = under.came (part_at grain w i) told fits

  way : AreUnderWay l (part_at grain w i) come.slot begun.chains begun.grains doing.steps now.chains now.grains
  way = subst (λ (z : LaneOf). AreUnderWay z (part_at grain w i) come.slot begun.chains begun.grains doing.steps now.chains now.grains) lane_is come.way

  slot_is : slot_asked l (part_at grain w i) doing.steps.ask ≡ Some come.slot
  slot_is = subst (λ (z : LaneOf). slot_asked z (part_at grain w i) doing.steps.ask ≡ Some come.slot) lane_is come.slot_is

  online : IsOnline w doing.steps.ask
  online = online_by w begun doing.steps.ask (told.parts.beside.volumes_are ∙ (part_follows grain w i).volumes) under.can_write

  pub begun_steps : List DiskStep
  begun_steps = steps_asked l (spot_in grain w (request_of doing.steps.ask)) doing.steps.ask come.slot

  pub begun_steps_are : AreStepsOf grain w (request_of doing.steps.ask) begun_steps
  unfolding begun_steps
  begun_steps_are =
      let is_of : IsOf l (grain_asked l doing.steps.ask) = way.asked.can.of_lane in
      steps_by_ask grain w i il doing.steps.ask come.slot is_of (sym (slot_same grain w i il doing.steps.ask is_of) ∙ slot_is) way.asked.own online
