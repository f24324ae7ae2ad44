-- Whether the move that is next copies nothing, as the chains of its lane say.
use Rattle.std.proofs.Common.{◌≡◌, ℕ, ◌+◌, Bool, true, false, cond, drop, Option, Some, None, List, ◌∷◌, slice_index_or, refl, sym, ap, subst, ◌∙◌}
use Rattle.std.specs.Prelude.{IsSome}
use Rattle.fc_base.specs.Column.{holder}
use Rattle.fc_base.specs.Sheet.{Slot, birth_place, column, slot_at}
use Rattle.fc_base.specs.declared.ids.SlotId.{SlotId}
use Rattle.fc_base.specs.declared.ids.VolId.{VolId}
use Rattle.fc_base.specs.declared.request.Move.{Move}
use Rattle.fc_base.specs.declared.size.GrainSize.{GrainSize}
use Rattle.fc_chain.specs.Chains.{Chains, IsOfLane, IsThere, found, in_lane}
use Rattle.fc_changed.specs.Row.{Row}
use Rattle.fc_entry.specs.HistoryState.{HistoryState}
use Rattle.fc_entry.specs.Picture.{is_lost}
use Rattle.fc_grains.specs.Volumes.{stored}
use Rattle.fc_lane.specs.Lane.{LaneView}
use Rattle.fc_lane.specs.declared.doing.Doing.{Doing}
use Rattle.fc_legal.specs.Whole.{Whole, lane_at, part_at}
use Rattle.fc_noted.proofs.Data.{hand_none, seen_lane}
use Rattle.fc_noted.specs.Noted.{IsDoing}
use Rattle.fc_noted.specs.declared.noted.Noted.{Noted}
use Rattle.fc_noted.specs.declared.noted.UnderWay.{UnderWay}
use Rattle.fc_pictures.proofs.Fitting.{read_is}
use Rattle.fc_rules.specs.Steps.{DiskStep}
use Rattle.fc_steps.proofs.Naming.{holder_named}
use Rattle.fc_steps.proofs.UnderWay.{MoveComes, move_comes, way_can}
use Rattle.fc_steps.specs.Moving.{CanMove}
use Rattle.fc_steps.specs.Standing.{Stands}
use Rattle.fc_steps.specs.UnderWay.{next_of}
use Rattle.fc_steps.specs.declared.stepping.Next.TheVariants.{Move as NextMove}
use Rattle.fc_steps.specs.declared.stepping.Steps.{Steps}
use Rattle.fc_store.specs.Stepping.{lane_in}
use Rattle.law_crash.specs.Points.{Point}
use Rattle.law_noted.proofs.DataInHand.{made_so, slot, way}
use Rattle.law_noted.specs.DataSteps.{IsInHand, copies_nothing, lost_for, lost_of}

module _ (grain : GrainSize) (w : Whole) (least : List Row) (place : ℕ) (doing : Doing) (begun old : LaneView) (steps : List DiskStep) (before q : Point) (h : IsInHand grain w least place doing begun old steps before None q)
    (m : Move) (e : next_of doing.steps ≡ NextMove m) where
  abbrev s : Steps
  s = doing.steps

  abbrev slots : List Slot
  slots = old.chains.sheet.slots

  c : MoveComes doing.steps.stop doing.steps.written doing.steps.made doing.steps.planned.moves m
  c = move_comes s.stop s.written s.made s.planned.moves s.ask m e

  can : (k : ℕ) × CanMove old.chains doing.steps.place m k
  can =
      way_can (lane_at grain w place) (part_at grain w place) (slot grain w least place doing begun old steps before q h) begun.chains begun.grains s old.chains old.grains (way grain w least place doing begun old steps before q h) m c

  stands : Stands old.chains.sheet (part_at grain w place).picture old.grains.volumes
  stands = (made_so grain w least place doing begun old steps before q h (m ∷ drop (s.made + 1) s.planned.moves) c.stop_is c.written_is c.left).stands

  source : (k : ℕ) × (holder (column old.chains.sheet.slots doing.steps.place) can.0 ≡ Some k)
  source =
      let x = read_is old.chains.sheet (part_at grain w place).picture (stored old.grains.volumes) can.0 s.place stands.sound stands.shows can.1.safe.there can.1.safe.is_live can.1.inside in
      (x.0, x.1)

  -- by the chains of the lane
  next_there : (chains : Chains) → chains ≡ old.chains → IsThere chains.sheet.slots m.slot
  next_there chains same = subst (λ (z : Chains). IsThere z.sheet.slots m.slot) (sym same) (subst (λ (o : Option ℕ). IsSome o) (sym can.1.is_there) refl)

  next_of_lane : (chains : Chains) → chains ≡ old.chains → IsOfLane chains m.grain.0
  next_of_lane chains same = subst (λ (z : Chains). IsOfLane z m.grain.0) (sym same) can.1.of_lane

  -- a holder that is found
  module _ (chains : Chains) (same : chains ≡ old.chains) (o : Option SlotId)
      (says : (k : ℕ) → birth_place chains.sheet.slots m.slot.0 ≡ Some k → o ≡ found chains.sheet.slots (holder (column chains.sheet.slots (in_lane chains m.grain.0)) k)) where
    found_is : o ≡ found old.chains.sheet.slots (holder (column old.chains.sheet.slots doing.steps.place) can.0)
    found_is =
        let Says : Chains → Type 0 = λ z. (k : ℕ) → birth_place z.sheet.slots m.slot.0 ≡ Some k → o ≡ found z.sheet.slots (holder (column z.sheet.slots (in_lane z m.grain.0)) k) in
        subst Says same says can.0 can.1.is_there ∙ ap (λ (y : ℕ). found slots (holder (column slots y) can.0)) can.1.place

    named : (name : SlotId) → o ≡ Some name → birth_place old.chains.sheet.slots name.0 ≡ Some source.0
    named name is = holder_named old.chains.sheet s.place m.slot.0 can.0 source.0 name o stands.sound can.1.is_there source.1 found_is is

    source_there : (name : SlotId) (again : Chains) → again ≡ old.chains → o ≡ Some name → IsThere again.sheet.slots name
    source_there name again is some = subst (λ (z : Chains). IsThere z.sheet.slots name) (sym is) (subst (λ (p : Option ℕ). IsSome p) (sym (named name some)) refl)

    -- what it says
    says_lost : m.in_place ≡ false → copies_nothing old doing.steps.place m ≡ lost_of old doing.steps.place (Some source.0)
    says_lost out =
        ap (λ (z : Bool). cond z true (lost_for old s.place (birth_place slots m.slot.0))) out
        ∙ (ap (lost_for old s.place) can.1.is_there ∙ ap (lost_of old s.place) source.1)

    copies_by : (name : SlotId) (again : Chains) (volume : VolId) (lost : Bool) → again ≡ old.chains → o ≡ Some name → ((k : ℕ) → birth_place again.sheet.slots name.0 ≡ Some k → volume.0 ≡ (slot_at again.sheet.slots k).volume) →
        lost ≡ is_lost (stored old.grains.volumes volume.0 doing.steps.place) → m.in_place ≡ false → lost ≡ copies_nothing old doing.steps.place m
    copies_by name again volume lost is some of lost_is out =
        let Of : Chains → Type 0 = λ z. (k : ℕ) → birth_place z.sheet.slots name.0 ≡ Some k → volume.0 ≡ (slot_at z.sheet.slots k).volume in
        let v : volume.0 ≡ (slot_at slots source.0).volume = subst Of is of source.0 (named name some) in
        lost_is ∙ (ap (λ (y : ℕ). is_lost (stored old.grains.volumes y s.place)) v ∙ sym (says_lost out))

    copies_none : o ≡ None → m.in_place ≡ false → true ≡ copies_nothing old doing.steps.place m
    copies_none none out =
        let f : None ≡ found slots (Some source.0) = sym none ∙ (found_is ∙ ap (found slots) source.1) in
        absurd cc

-- ---- in the lane of an entry that is under way, as it is seen among all lanes

module _ {C D : Type 0} (seen : D → List ℕ) (may_leave : D → List ℕ → Type 0) (n : Noted C D) (way : UnderWay)
    (at : (w : Whole) × (least : List Row) × (history : HistoryState) × IsDoing seen may_leave n way history w least) (none : way.due ≡ None) (m : Move) (next : next_of way.doing.steps ≡ NextMove m)
    (all : List LaneView) (v : LaneView) (are : all ≡ n.store.lanes) (v_is : v ≡ slice_index_or all way.place v) where
  abbrev begun : LaneView
  begun = lane_in at.3.begun way.place

  abbrev now : LaneView
  now = lane_in n.store way.place

  seen_is : v ≡ lane_in n.store way.place
  seen_is = seen_lane seen may_leave n way at.2 at.0 at.1 at.3 none all v are v_is

  hand : IsInHand at.3.begun.control.grain at.0 at.1 way.place way.doing (lane_in at.3.begun way.place) (lane_in n.store way.place) at.3.steps at.3.before None at.3.point
  hand = hand_none seen may_leave n way at.2 at.0 at.1 at.3 none

  chains_are : (chains : Chains) → chains ≡ v.chains → chains ≡ (lane_in n.store way.place).chains
  chains_are chains same = same ∙ ap (λ (lane : LaneView). lane.chains) seen_is

  pub slot_there : (chains : Chains) → chains ≡ v.chains → IsThere chains.sheet.slots m.slot
  slot_there chains same = next_there at.3.begun.control.grain at.0 at.1 way.place way.doing begun now at.3.steps at.3.before at.3.point hand m next chains (chains_are chains same)

  pub grain_of_lane : (chains : Chains) → chains ≡ v.chains → IsOfLane chains m.grain.0
  grain_of_lane chains same = next_of_lane at.3.begun.control.grain at.0 at.1 way.place way.doing begun now at.3.steps at.3.before at.3.point hand m next chains (chains_are chains same)

  module _ (chains : Chains) (same : chains ≡ v.chains) (o : Option SlotId)
      (says : (k : ℕ) → birth_place chains.sheet.slots m.slot.0 ≡ Some k → o ≡ found chains.sheet.slots (holder (column chains.sheet.slots (in_lane chains m.grain.0)) k)) where
    pub holder_there : (name : SlotId) (again : Chains) → again ≡ v.chains → o ≡ Some name → IsThere again.sheet.slots name
    holder_there name again is =
        source_there at.3.begun.control.grain at.0 at.1 way.place way.doing begun now at.3.steps at.3.before at.3.point hand m next chains (chains_are chains same) o says name again (chains_are again is)

    pub by_holder : (name : SlotId) (again : Chains) (volume : VolId) (lost : Bool) → again ≡ v.chains → o ≡ Some name → ((k : ℕ) → birth_place again.sheet.slots name.0 ≡ Some k → volume.0 ≡ (slot_at again.sheet.slots k).volume) →
        lost ≡ is_lost (stored v.grains.volumes volume.0 way.doing.steps.place) → m.in_place ≡ false → lost ≡ copies_nothing (lane_in n.store way.place) way.doing.steps.place m
    by_holder name again volume lost is some of lost_is =
        copies_by at.3.begun.control.grain at.0 at.1 way.place way.doing begun now at.3.steps at.3.before at.3.point hand m next chains (chains_are chains same) o says name again volume lost (chains_are again is) some of
        (lost_is ∙ ap (λ (lane : LaneView). is_lost (stored lane.grains.volumes volume.0 way.doing.steps.place)) seen_is)

    pub by_none : o ≡ None → m.in_place ≡ false → true ≡ copies_nothing (lane_in n.store way.place) way.doing.steps.place m
    by_none = copies_none at.3.begun.control.grain at.0 at.1 way.place way.doing begun now at.3.steps at.3.before at.3.point hand m next chains (chains_are chains same) o says
