-- A command over all parts: they make a store that stands for what is told, and each has its share of what comes next.
use Rattle.std.proofs.Common.{◌≡◌, ℕ, zero, suc, ◌<◌, ◌≤◌, vec_capacity, false, true≢false, List, [], ◌∷◌, All, length, slice_index_or, refl, sym, ap, ap₂, ◌∙◌, subst, arith}
use mathlib.Core.Option.{some, some-injective, some-ne-none}
use lib.ListN.{get_elem?}
use Rattle.fc_base.specs.declared.command.Command.{Command}
use Rattle.fc_base.specs.declared.command.Command.TheVariants.{Armfault, Mkvdisk}
use Rattle.fc_base.specs.declared.request.Reply.{Reply}
use Rattle.fc_base.specs.declared.request.Request.{Request}
use Rattle.fc_base.specs.declared.request.Request.TheVariants.{Command as Asked}
use Rattle.fc_base.specs.declared.size.GrainSize.{GrainSize}
use Rattle.fc_desk.specs.Control.{ControlState}
use Rattle.fc_entry.specs.declared.entry.Entry.{Entry}
use Rattle.fc_lane.specs.Lane.{LaneView, IsSameLane, KeepsQuiet}
use Rattle.fc_lanes.specs.AllLanes.{EachLane}
use Rattle.fc_legal.specs.Steps.{Step}
use Rattle.fc_legal.specs.Whole.{Whole, lanes}
use Rattle.fc_shares.specs.Law.{HaveShares}
use Rattle.fc_shares.specs.Law.{AllLead as LeadAll}
use Rattle.fc_shares.specs.Situation.{Situation, HasControl, HasLane, IsSound, LeadsTo, entries_told}
use Rattle.fc_shares.proofs.Lawful.{share_law_holds}
use Rattle.fc_stands.proofs.Since.{command_near}
use Rattle.fc_stands.specs.Armed.{ArmsAs}
use Rattle.fc_stands.specs.Arming.{SetsNothing, arms}
use Rattle.fc_stands.specs.Leading.{LeadsOn}
use Rattle.fc_stands.specs.Store.{StandsFor, StoreView}
use Rattle.fc_store.specs.StoreParts.{lane_parts, parts_view}
use Rattle.fc_store.specs.declared.store_part.StorePart.{StorePart}
use Rattle.fc_store.specs.declared.store_part.StorePart.TheVariants.{Control, Lane}
use Rattle.fc_tasks.specs.Tasks.{AllFit, AllLead}
use Rattle.law_volumes.specs.Law.{asks_of_volumes}
use Rattle.law_volumes.proofs.Volumes.{volumes_law_holds}
use Rattle.fc_actors.specs.Scripts.{IsOfBlock, IsSameScript, Suits, WorkSuits}
use Rattle.fc_actors.specs.Shares.{HasShare}
use Rattle.fc_actors.specs.declared.script.ActorScript.{ActorScript}
use Rattle.fc_actors.specs.declared.script.Left.{Left}
use Rattle.fc_actors.proofs.Fitting.{Told, fits_first}
use Rattle.fc_actors.proofs.Gathering.{lanes_long}

-- ---- lanes of parts

-- The parts are lanes, and each is of its kind with the one at its place.
record Lanes {D : Type 0} (Q : ℕ → LaneView → LaneView → Type 0) (openings : List LaneView) (parts : List (StorePart D)) : Type 0 where
  ls : List LaneView
  are : parts ≡ lane_parts ls
  long : length ls ≡ length openings
  each : (i : ℕ) (d : LaneView) → i < length ls → Q i (slice_index_or openings i d) (slice_index_or ls i d)

each_more : (Q : ℕ → LaneView → LaneView → Type 0) (o v : LaneView) (openings ls : List LaneView) → Q 0 o v → ((i : ℕ) (d : LaneView) → i < length ls → Q (suc i) (slice_index_or openings i d) (slice_index_or ls i d)) →
    (i : ℕ) (d : LaneView) → i < length (v ∷ ls) → Q i (slice_index_or (o ∷ openings) i d) (slice_index_or (v ∷ ls) i d)
each_more Q o v openings ls first each zero d inside = first
each_more Q o v openings ls first each (suc i) d inside = each i d (omega (arith, inside))

lanes_of : {D : Type 0} (Q : ℕ → LaneView → LaneView → Type 0) (openings : List LaneView) (parts : List (StorePart D)) → length parts ≡ length openings
    → ((i : ℕ) (o : LaneView) (x : StorePart D) → get_elem? openings i ≡ some o → get_elem? parts i ≡ some x → (v : LaneView) × (x ≡ Lane v) × Q i o v)
    → Lanes Q openings parts
lanes_of Q [] [] long has = record { ls = []; are = refl; long = refl; each = λ i d inside. absurd (omega (arith, inside)) }
lanes_of Q [] (x ∷ parts) long has = absurd (omega (arith, long))
lanes_of Q (o ∷ openings) [] long has = absurd (omega (arith, long))
lanes_of Q (o ∷ openings) (x ∷ parts) long has =
    let first = has 0 o x refl refl in
    let rest = lanes_of (λ i. Q (suc i)) openings parts (omega (arith, long)) (λ i p y. has (suc i) p y) in
    record { ls = first.0 ∷ rest.ls; are = ap₂ (λ y ys. y ∷ ys) first.1 rest.are; long = ap (λ (n : ℕ). suc n) rest.long; each = each_more Q o first.0 openings rest.ls first.2 rest.each }

lane_part_at : {D : Type 0} (ls : List LaneView) (i : ℕ) (v : LaneView) → get_elem? ls i ≡ some v → get_elem? (lane_parts {D = D} ls) i ≡ some (Lane v)
lane_part_at [] i v at = absurd (some-ne-none _ (sym at))
lane_part_at (l ∷ ls) zero v at = ap (λ (u : LaneView). some (Lane u)) (some-injective l v at)
lane_part_at (l ∷ ls) (suc i) v at = lane_part_at ls i v at

part_lane_at : {D : Type 0} (ls : List LaneView) (i : ℕ) (x : StorePart D) → get_elem? (lane_parts ls) i ≡ some x → (v : LaneView) × (x ≡ Lane v) × (i < length ls) × ((d : LaneView) → slice_index_or ls i d ≡ v)
part_lane_at [] i x at = absurd (some-ne-none _ (sym at))
part_lane_at (l ∷ ls) zero x at = (l, sym (some-injective (Lane l) x at), omega arith, λ d. refl)
part_lane_at (l ∷ ls) (suc i) x at = let h = part_lane_at ls i x at in (h.0, h.1, omega (arith, h.2), h.3)

lane_here : (ls : List LaneView) → 0 < length ls → (v : LaneView) × (get_elem? ls 0 ≡ some v)
lane_here [] inside = absurd (omega (arith, inside))
lane_here (v ∷ ls) inside = (v, refl)

-- ---- shares

module _ {D : Type 0} where
  abbrev pub FitAll : List (StorePart D) → Situation → List (StorePart D) → Type 0
  FitAll openings w xs = AllFit {E = Entry} {P = StorePart D} (λ o s q x. HasShare o s q x) (λ a b. IsSound a b) entries_told (λ a n f b. LeadsTo a n f b) openings w xs

  control_of : (c0 : ControlState) (w : Situation) (x : StorePart D) → HasShare (Control c0) w zero x → (c : ControlState) × (x ≡ Control c) × HasControl w c
  control_of c0 w (Control c) has = (c, refl, has)
  control_of c0 w (Lane v) has = absurd has

  lane_of : (v0 : LaneView) (w : Situation) (i : ℕ) (x : StorePart D) → HasShare (Lane v0) w (suc i) x → (v : LaneView) × (x ≡ Lane v) × HasLane w i v0 v
  lane_of v0 w i (Lane v) has = (v, refl, has)
  lane_of v0 w i (Control c) has = absurd has

  -- The parts make a store, and it has its shares.
  pub record StoreOf (first w : Situation) (openings : List LaneView) (xs : List (StorePart D)) : Type 0 where
    pub store : StoreView
    pub are : xs ≡ parts_view store
    pub shares : HaveShares first w openings store
    pub long : length store.lanes ≡ length openings

  store_of : (first w : Situation) (st : StoreView) (xs : List (StorePart D)) → IsSound first w → length st.lanes ≡ lanes w.whole → length xs ≡ length (parts_view {D = D} st) → FitAll (parts_view st) w xs → StoreOf first w st.lanes xs
  store_of first w st [] sound count long fit = absurd (omega (arith, long))
  store_of first w st (x ∷ xs) sound count long fit =
      let control = control_of st.control w x (fit 0 (Control st.control) x refl refl) in
      let same = lanes_long D st.lanes in
      let behind = lanes_of (λ i o v. HasLane w i o v) st.lanes xs (omega (arith, long, same)) (λ i o y at here. lane_of o w i y (fit (suc i) (Lane o) y (lane_part_at st.lanes i o at) here)) in
      record {
        store = record { control = control.0; lanes = behind.ls };
        are = ap₂ (λ (y : StorePart D) (ys : List (StorePart D)). y ∷ ys) control.1 behind.are;
        shares = record { sound = sound; control = control.2; count = behind.long ∙ count; each = behind.each };
        long = behind.long;
      }

  all_fit : (first w : Situation) (st new : StoreView) → HaveShares first w st.lanes new → FitAll (parts_view st) w (parts_view new)
  all_fit first w st new shares zero x0 x at here =
      let opened : Control st.control ≡ x0 = some-injective _ _ at in let now : Control new.control ≡ x = some-injective _ _ here in
      subst (λ (b : StorePart D). HasShare x0 w zero b) now (subst (λ (a : StorePart D). HasShare a w zero (Control new.control)) opened shares.control)
  all_fit first w st new shares (suc i) x0 x at here =
      let o = part_lane_at st.lanes i x0 at in let v = part_lane_at new.lanes i x here in
      let has : HasLane w i (slice_index_or st.lanes i o.0) (slice_index_or new.lanes i o.0) = shares.each i o.0 v.2 in
      let had : HasLane w i o.0 v.0 = subst (λ (b : LaneView). HasLane w i o.0 b) (v.3 o.0) (subst (λ (a : LaneView). HasLane w i a (slice_index_or new.lanes i o.0)) (o.3 o.0) has) in
      subst (λ (b : StorePart D). HasShare x0 w (suc i) b) (sym v.1) (subst (λ (a : StorePart D). HasShare a w (suc i) (Lane v.0)) (sym o.1) had)

  -- ---- the store that a script's parts make

  module _ (s : ActorScript D) (openings xs : List (StorePart D)) (first limit : ℕ) (w0 w : Situation) (suits : Suits s openings limit) (told : Told openings first limit w0 w) (long : length xs ≡ length openings) (fit : FitAll openings w xs) where
    counted : length suits.store.lanes ≡ lanes w.whole
    counted =
        let one = lane_here suits.store.lanes (omega (arith, suits.some, suits.count)) in
        let at : get_elem? openings 1 ≡ some (Lane one.0) = ap (λ (l : List (StorePart D)). get_elem? l 1) suits.parts_are ∙ lane_part_at suits.store.lanes 0 one.0 one.1 in
        suits.count ∙ sym (fits_first s openings limit first w0 suits told.opens 0 one.0 at).lanes_are ∙ sym told.sound_is.lanes_are

    pub store_here : StoreOf w0 w suits.store.lanes xs
    store_here = store_of w0 w suits.store xs told.sound_is counted (long ∙ ap length suits.parts_are) (λ p x0 x at here. fit p x0 x (ap (λ (l : List (StorePart D)). get_elem? l p) suits.parts_are ∙ at) here)

    pub stands_here : StandsFor store_here.store w.whole
    stands_here = share_law_holds.closing w0 w suits.store.lanes store_here.store store_here.shares

-- ---- a command leads on

no_arms : (command : Command) (reply : Reply) → ((volume : _) (grain calls : ℕ) → command ≡ Armfault volume grain calls → ⊥) → arms (Asked command) reply ≡ false
no_arms (Armfault volume grain calls) reply other = absurd (other volume grain calls refl)
no_arms command reply other = refl

-- One of a block sets no armed fault.
sets_nothing : (command : Command) (reply : Reply) → IsOfBlock command → SetsNothing (Asked command) reply
sets_nothing (Armfault volume grain calls) reply block = absurd (block.no_fault volume grain calls refl)
sets_nothing (Mkvdisk name size unit thin) reply block = absurd (true≢false block.no_volume)
sets_nothing command reply block = λ names id lane lanes. refl

-- What a command over all parts did, whatever store they were.
abbrev pub Did : {D : Type 0} → List (StorePart D) → List (StorePart D) → Command → Entry → Type 0
Did xs news command entry = (st : StoreView) → xs ≡ parts_view st → (new : StoreView) × (news ≡ parts_view new)
    × ((v : Whole) → StandsFor st v → v.entries < 262144 → LeadsOn st.control.grain v entry new)
    × (new.control.grain ≡ st.control.grain) × EachLane IsSameLane st.lanes new.lanes
    × (arms (Asked command) entry.reply ≡ false → EachLane KeepsQuiet st.lanes new.lanes)
    × EachLane (ArmsAs new.control.tables command entry.reply) st.lanes new.lanes

module _ {D : Type 0} (s : ActorScript D) (openings xs : List (StorePart D)) (first limit : ℕ) (w0 w : Situation) (suits : Suits s openings limit) (told : Told openings first limit w0 w) (long : length xs ≡ length openings) (fit : FitAll openings w xs) where
  pub over_leads : (news : List (StorePart D)) (command : Command) (entry : Entry) → IsOfBlock command → entry.request ≡ Asked command → Did xs news command entry →
      AllLead {E = Entry} {P = StorePart D} (λ o a q x. HasShare o a q x) (λ a b. IsSound a b) entries_told (λ a n f b. LeadsTo a n f b) openings w0 w news entry
  over_leads news command entry block asked over =
      let here = store_here s openings xs first limit w0 w suits told long fit in
      let did = over here.store here.are in
      let new : StoreView = did.0 in
      let few : w.whole.entries < 262144 = omega (arith, told.room, suits.few) in
      let on = did.2 w.whole (stands_here s openings xs first limit w0 w suits told long fit) few in
      let numbered : Entry = record entry { number = w.whole.entries } in
      let step : Step w.grain w.whole numbered on.0 = subst (λ (size : GrainSize). Step size w.whole numbered on.0) here.shares.control.grain on.1 in
      let volumes = volumes_law_holds.steps w.grain w.whole numbered on.0 (subst (λ (r : Request). asks_of_volumes r ≡ false) (sym asked) block.no_volume) step in
      let quiet = did.5 (no_arms command entry.reply block.no_fault) in
      let unset : SetsNothing (Asked command) entry.reply = sets_nothing command entry.reply block in
      let near = command_near new.control.tables command entry.reply in
      let led : LeadAll w0 w suits.store.lanes new entry = share_law_holds.command w0 w suits.store.lanes here.store new entry on.0 here.shares step
      (subst (λ (r : Request). SetsNothing r entry.reply) (sym asked) unset) on.2 on.3 volumes on.4 did.3
      record {
        count = did.4.count;
        each = λ i d inside. (did.4.each i d inside, quiet.each i d inside, near (slice_index_or here.store.lanes i d) (slice_index_or new.lanes i d) unset (did.6.each i d inside));
      } in
      record {
        next = led.next;
        leads = led.leads;
        sound_is = led.shares.sound;
        counted = led.counted;
        fit = λ p x0 x at now. all_fit w0 led.next suits.store new led.shares p x0 x (ap (λ (l : List (StorePart D)). get_elem? l p) (sym suits.parts_are) ∙ at) (ap (λ (l : List (StorePart D)). get_elem? l p) (sym did.1) ∙ now);
      }

  pub over_long : (news : List (StorePart D)) (command : Command) (entry : Entry) → Did xs news command entry → length news ≡ length xs
  over_long news command entry over =
      let here = store_here s openings xs first limit w0 w suits told long fit in
      let did = over here.store here.are in
      omega (arith, ap length did.1, ap length here.are, lanes_long D did.0.lanes, lanes_long D here.store.lanes, did.4.count)

-- Another tray with room for all lanes.
pub still_suits : {D : Type 0} (old mid new : ActorScript D) (openings : List (StorePart D)) (limit : ℕ) → IsSameScript old mid → new.grain ≡ mid.grain → new.lanes ≡ mid.lanes → new.work ≡ mid.work →
    new.tray.items ≡ [] → old.lanes ≤ vec_capacity new.tray → Suits old openings limit → Suits new openings limit
still_suits old mid new openings limit same grain count work empty room suits = record {
  store = suits.store;
  parts_are = suits.parts_are;
  count = suits.count ∙ sym (count ∙ same.lanes);
  some = subst (λ (n : ℕ). 0 < n) (sym (count ∙ same.lanes)) suits.some;
  lanes_are = subst (λ (n : ℕ). All (λ (v : LaneView). v.lanes ≡ n) suits.store.lanes) (sym (count ∙ same.lanes)) suits.lanes_are;
  grain = suits.grain ∙ sym (grain ∙ same.grain);
  few = suits.few;
  tray = (empty, subst (λ (n : ℕ). n ≤ vec_capacity new.tray) (sym (count ∙ same.lanes)) room);
  work = λ first w0 opens. subst (λ (l : Left). WorkSuits w0 l) (sym work) (same.work w0 (suits.work first w0 opens));
}
