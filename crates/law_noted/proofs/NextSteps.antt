-- Which step of an entry is next, what a move reads, and what a step that failed tore.
use Rattle.std.proofs.Common.{◌≡◌, ℕ, ◌≤◌, Bool, true, false, cond, eqb, take, drop, Option, Some, None, List, [], ◌∷◌, ◌++◌, length, map, inl, inr, refl, sym, ap, subst, ◌∙◌, arith}
use Rattle.std.proofs.lemmas.List.{append-nil, length-map, length-take-le}
use Rattle.fc_base.specs.Column.{holder}
use Rattle.fc_base.specs.Sheet.{Slot, birth_place, column, slot_at}
use Rattle.fc_base.specs.declared.request.Move.{Move}
use Rattle.fc_base.specs.declared.request.Torn.{Torn}
use Rattle.fc_chain.specs.Chains.{Chains}
use Rattle.fc_entry.specs.Picture.{Picture, is_lost}
use Rattle.fc_grains.specs.Grains.{GrainsState}
use Rattle.fc_grains.specs.Volumes.{VolumeGrains, stored}
use Rattle.fc_lane.specs.Lane.{LaneView}
use Rattle.fc_pictures.specs.Law.{now_of}
use Rattle.fc_pictures.proofs.Agreeing.{lane_law_holds}
use Rattle.fc_pictures.proofs.Fitting.{read_is}
use Rattle.fc_rules.specs.LaneTold.{LaneOf, LaneTold}
use Rattle.fc_rules.specs.Spot.{Spot, move_in}
use Rattle.fc_rules.specs.Steps.{DiskStep, calls_of_steps, moves_of, step_of_move}
use Rattle.fc_steps.specs.Moving.{CanMove, SameLane}
use Rattle.fc_steps.specs.Standing.{Stands}
use Rattle.fc_steps.specs.StepsEnd.{FailedIn}
use Rattle.fc_steps.specs.UnderWay.{AreUnderWay, MovesCame, StepsCame, grain_asked, moving_asked, spot_asked, steps_asked}
use Rattle.fc_steps.specs.declared.ask.Ask.{Ask}
use Rattle.fc_steps.specs.declared.stepping.Steps.{Steps}
use Rattle.fc_steps.specs.declared.stop.Stop.{Stop}
use Rattle.fc_steps.specs.declared.stop.Stop.TheVariants.{Failed}
use Rattle.fc_steps.proofs.Naming.{some_is}
use Rattle.fc_steps.proofs.StepsMade.{split_list}
use Rattle.law_crash.proofs.Stopping.{which_step}
use Rattle.law_noted.specs.DataSteps.{copies_nothing, lost_for, lost_of}

-- ---- how many moves were made

-- these moves are left of those of some slots
pub record MadeAt (spot : Spot) (told : LaneTold) (x : ℕ) (s : Steps) (left : List Move) (after : Chains) (new : GrainsState) : Type 0 where
  pub done : List ℕ
  pub rest : List ℕ
  pub split : moving_asked spot s.ask x ≡ done ++ rest
  pub made_are : take s.made s.planned.moves ≡ map (move_in spot) done
  pub rest_are : left ≡ map (move_in spot) rest
  pub count : length done ≡ s.made
  pub calls : s.calls ≡ calls_of_steps (map (step_of_move spot) done)
  pub stands : Stands after.sheet told.picture new.volumes

module _ (l : LaneOf) (told : LaneTold) (x : ℕ) (chains : Chains) (old : GrainsState) (s : Steps) (after : Chains) (new : GrainsState) (u : AreUnderWay l told x chains old s after new) where
  abbrev Came : List Move → Option Stop → Bool → Type 0
  Came left stop written = StepsCame l told s.ask x (take s.made s.planned.moves) left s.calls stop written chains old after new

  pub made_at : (left : List Move) → s.stop ≡ None → s.written ≡ false → drop s.made s.planned.moves ≡ left → s.made ≤ length s.planned.moves → MadeAt (spot_asked l told s.ask) told x s left after new
  made_at left none unwritten e within =
      let spot : Spot = spot_asked l told s.ask in
      let c : MovesCame l told (grain_asked l s.ask) (moving_asked spot s.ask x) (take s.made s.planned.moves) left s.calls chains old after new =
      subst (λ (b : Bool). Came left None b) unwritten (subst (λ (o : Option Stop). Came left o s.written) none (subst (λ (z : List Move). Came z s.stop s.written) e u.came)) in
      record {
        done = c.done;
        rest = c.left;
        split = c.split;
        made_are = c.made_are;
        rest_are = c.rest_are;
        count = sym (length-map c.done (move_in spot)) ∙ (ap length (sym c.made_are) ∙ length-take-le s.made s.planned.moves within);
        calls = c.calls_are;
        stands = subst (λ (z : Chains). Stands z.sheet told.picture new.volumes) (sym c.stands.chains_are) c.stands.stands;
      }

-- the ids, kinds and sizes of volumes stayed
pub stays_by : (l : LaneOf) (told : LaneTold) (ask : Ask) (x : ℕ) (made rest : List Move) (calls : ℕ) (stop : Option Stop) (written : Bool) (chains after : Chains) (old new : GrainsState) →
    StepsCame l told ask x made rest calls stop written chains old after new → SameLane old new
stays_by l told ask x made rest calls None false chains after old new c = c.stands.same
stays_by l told ask x made rest calls None true chains after old new c = c.1.same
stays_by l told ask x made rest calls (Some stop) written chains after old new c = c.1.same

-- where a write failed
pub failed_by : (l : LaneOf) (told : LaneTold) (ask : Ask) (x : ℕ) (made rest : List Move) (calls : ℕ) (stop : Option Stop) (written : Bool) (torn : Torn) (chains after : Chains) (old new : GrainsState) →
    StepsCame l told ask x made rest calls stop written chains old after new → stop ≡ Some (Failed (Some torn)) →
    FailedIn (spot_asked l told ask) (steps_asked l (spot_asked l told ask) ask x) made calls (Some torn) old new
failed_by l told ask x made rest calls stop written torn chains after old new c e =
    let f : StepsCame l told ask x made rest calls (Some (Failed (Some torn))) written chains old after new =
    subst (λ (o : Option Stop). StepsCame l told ask x made rest calls o written chains old after new) e c in
    f.0

-- the slot of the move that is next
pub next_slot : (spot : Spot) (m : Move) (ms : List Move) (rest : List ℕ) → m ∷ ms ≡ map (move_in spot) rest → (k : ℕ) × (more : List ℕ) × (rest ≡ k ∷ more) × (m ≡ move_in spot k)
next_slot spot m ms rest e = let y = split_list (move_in spot) rest m ms e in (y.0, y.1, y.2, y.3)

pub none_next : (spot : Spot) (rest : List ℕ) → [] ≡ map (move_in spot) rest → rest ≡ []
none_next spot [] e = refl
none_next spot (k ∷ rest) e = absurd cc

-- ---- what a move reads

pub move_reads : (chains : Chains) (picture : Picture) (volumes : List VolumeGrains) (g k slot source : ℕ) (m : Move) → Stands chains.sheet picture volumes → CanMove chains g m k →
    birth_place chains.sheet.slots m.slot.0 ≡ Some slot → holder (column chains.sheet.slots g) slot ≡ Some source →
    now_of picture m.volume.0 g ≡ stored volumes (slot_at chains.sheet.slots source).volume g
move_reads chains picture volumes g k slot source m st can named holds =
    let slots : List Slot = chains.sheet.slots in
    let r = read_is chains.sheet picture (stored volumes) k g st.sound st.shows can.safe.there can.safe.is_live can.inside in
    let q : slot ≡ k = some_is (sym named ∙ can.is_there) in
    let h : r.0 ≡ source = some_is (sym r.1 ∙ (ap (holder (column slots g)) (sym q) ∙ holds)) in
    ap (λ (v : ℕ). now_of picture v g) can.volume ∙ (r.2 ∙ ap (λ (z : ℕ). stored volumes (slot_at slots z).volume g) h)

-- it copies something
both_false : (b c : Bool) → cond b true c ≡ false → (b ≡ false) × (c ≡ false)
both_false true c e = absurd cc
both_false false c e = (refl, e)

pub copies_some : (lane : LaneView) (place slot source : ℕ) (m : Move) → copies_nothing lane place m ≡ false → birth_place lane.chains.sheet.slots m.slot.0 ≡ Some slot →
    holder (column lane.chains.sheet.slots place) slot ≡ Some source →
    (m.in_place ≡ false) × (is_lost (stored lane.grains.volumes (slot_at lane.chains.sheet.slots source).volume place) ≡ false)
copies_some lane place slot source m e named holds =
    let b = both_false m.in_place (lost_for lane place (birth_place lane.chains.sheet.slots m.slot.0)) e in
    (b.0, sym (ap (lost_of lane place) holds) ∙ (sym (ap (lost_for lane place) named) ∙ b.1))

-- ---- where lists are split

head_is : {X : Type 0} (x y : X) (xs ys : List X) → x ∷ xs ≡ y ∷ ys → x ≡ y
head_is x y xs ys e = cc

tail_is : {X : Type 0} (x y : X) (xs ys : List X) → x ∷ xs ≡ y ∷ ys → xs ≡ ys
tail_is x y xs ys e = cc

pub same_front : {X : Type 0} (xs us ys vs : List X) → length xs ≡ length us → xs ++ ys ≡ us ++ vs → (xs ≡ us) × (ys ≡ vs)
same_front [] [] ys vs n e = (refl, e)
same_front [] (u ∷ us) ys vs n e = absurd (omega (arith, n))
same_front (x ∷ xs) [] ys vs n e = absurd (omega (arith, n))
same_front (x ∷ xs) (u ∷ us) ys vs n e =
    let s = same_front xs us ys vs (omega (arith, n)) (tail_is x u (xs ++ ys) (us ++ vs) e) in
    let h : x ≡ u = head_is x u (xs ++ ys) (us ++ vs) e in
    ((λ i. h i ∷ s.0 i), s.1)

pub same_next : {X : Type 0} (x y : X) (xs ys : List X) → x ∷ xs ≡ y ∷ ys → x ≡ y
same_next x y xs ys e = head_is x y xs ys e

-- ---- what was torn

some_torn : (b : Bool) (torn t : Torn) → Some torn ≡ cond b (Some t) None → torn ≡ t
some_torn true torn t e = some_is e
some_torn false torn t e = absurd cc

abbrev pub torn_in_step : ℕ → DiskStep → Torn
torn_in_step number step = record { volume = record { 0 = step.volume }; grain = record { 0 = number }; side = step.side }

module _ (spot : Spot) (ks done : List ℕ) (owns : List DiskStep) (moves : List Move) (few : (more back : List DiskStep) (z : DiskStep) → owns ≡ more ++ z ∷ back → more ≡ []) (made : moves ≡ map (move_in spot) done) where
  abbrev step_at : ℕ → DiskStep
  step_at = step_of_move spot

  -- so many steps stand before one behind these moves
  counted : (before after : List DiskStep) (step : DiskStep) → map step_at ks ++ owns ≡ before ++ step ∷ after → moves ≡ moves_of before → length before ≡ length done
  counted before after step e m =
      let made_so : (front : List ℕ) → before ≡ map step_at front → length before ≡ length done = λ front is.
      let told : map (move_in spot) front ≡ map (move_in spot) done = sym (ap moves_of is ∙ lane_law_holds.moves_told spot front) ∙ (sym m ∙ made) in
      ap length is ∙ (length-map front step_at ∙ (sym (length-map front (move_in spot)) ∙ (ap length told ∙ length-map done (move_in spot)))) in
      elim (which_step step_at ks owns before after step e) [
        | inl y ↦ made_so y.0 y.4
        | inr y ↦ made_so ks (y.1 ∙ (ap (λ (z : List DiskStep). map step_at ks ++ z) (few y.0 after step y.2) ∙ append-nil (map step_at ks)))
      ]

  pub torn_next : (front back : List DiskStep) (step : DiskStep) (calls : ℕ) (torn : Torn) (old new : GrainsState) → map step_at ks ++ owns ≡ front ++ step ∷ back → length front ≡ length done →
      FailedIn spot (map step_at ks ++ owns) moves calls (Some torn) old new → (1 ≤ step.calls) × (torn ≡ torn_in_step spot.number step)
  torn_next front back step calls torn old new e n f =
      let x = f.stopped in
      let s = same_front front x.before (step ∷ back) (f.step ∷ x.after) (n ∙ sym (counted x.before x.after f.step x.steps_are x.moves_are)) (sym e ∙ x.steps_are) in
      let q : f.step ≡ step = sym (head_is step f.step back x.after s.1) in
      let t : torn ≡ torn_in_step spot.number f.step = some_torn (eqb f.extra f.step.calls) torn (torn_in_step spot.number f.step) f.torn_is in
      let some = f.called in
      let within = x.within in
      (subst (λ (z : DiskStep). 1 ≤ z.calls) q (omega (arith, some, within)), subst (λ (z : DiskStep). torn ≡ torn_in_step spot.number z) q t)
