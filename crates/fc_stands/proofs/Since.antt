-- How far away armed faults are, from entry to entry.
use Rattle.std.proofs.Common.{◌≡◌, ◌≢◌, ℕ, ◌+◌, ◌<◌, ◌≤◌, ◌==◌, Bool, true, false, cond, Option, Some, None, IfSome, List, [], ◌∷◌, ◌++◌, fold, length, slice_index_or, slice_set, Contains, refl, sym, ◌∙◌, ap, subst, arith, ◌⊎◌, inl, inr}
use Rattle.std.specs.Prelude.{unwrap_or}
use Rattle.std.specs.List.{All}
use Rattle.std.specs.Option.{option_map_or}
use Rattle.std.proofs.lemmas.Bool.{both_ways, cases_eq, cases_order, eq-eqb, eqb-true}
use Rattle.std.proofs.lemmas.List.{get_or-set_same, get_or-set_other, get_or_default, length-set}
use Rattle.std.proofs.lemmas.List.Elements.{All-head, All-tail}
use Rattle.std.proofs.lemmas.List.Sums.{fold-append}
use Rattle.fc_apply.specs.Parts.{IsArmedAt}
use Rattle.fc_base.specs.Tables.{Tables, IsOrdered, refers_to, volume_named}
use Rattle.fc_base.specs.declared.command.Command.{Command}
use Rattle.fc_base.specs.declared.command.Command.TheVariants.{Armfault, Mkvdisk}
use Rattle.fc_base.specs.declared.fault.Refusal.{Refusal}
use Rattle.fc_base.specs.declared.request.Reply.TheVariants.{Refused}
use Rattle.fc_base.specs.declared.name.Ref.{Ref}
use Rattle.fc_base.specs.declared.name.Ref.TheVariants.{Id, Name}
use Rattle.std.proofs.lemmas.Slice.Eq.{bytes_eq-Decides}
use Rattle.fc_base.specs.declared.request.Reply.{Reply}
use Rattle.fc_base.specs.declared.request.Request.{Request}
use Rattle.fc_base.specs.declared.request.Request.TheVariants.{Command as Asked, Unread, Read, Write, Copy, Clean, CopyTurn, CleanTurn}
use Rattle.fc_base.specs.declared.request.Place.{Place}
use Rattle.fc_base.specs.declared.request.Place.TheVariants.{Lane}
use Rattle.fc_base.specs.declared.volume.Volume.{Volume}
use Rattle.fc_decided.proofs.Lists.{find_from, find_misses}
use Rattle.fc_decided.proofs.Ordered.{one_of_id}
use Rattle.fc_entry.specs.declared.entry.Entry.{Entry}
use Rattle.fc_grains.specs.Grains.{GrainsState}
use Rattle.fc_grains.specs.Volumes.{VolumeGrains, ComeNearer, ComesNearer, volume_of}
use Rattle.fc_lane.specs.Lane.{LaneView, IsSameLane, of}
use Rattle.fc_lanes.specs.AllLanes.{EachLane}
use Rattle.fc_rules.specs.LaneRight.{IsRightInLane, LaneAnswers}
use Rattle.fc_rules.specs.LaneTold.{LaneOf, LaneTold}
use Rattle.fc_stands.specs.Armed.{ArmsAs, refers_to_volume}
use Rattle.fc_stands.specs.Arming.{ArmedSince, IsArmedSince, SetsNothing, armed_since, armed_step, calls_in, later, set_by}
use Rattle.fc_stands.specs.Quiet.{AreQuiet, IsArmedBy, IsDueSince, KeepsNear}

-- ---- one disk

-- More calls may have been made.
pub since_more : (a b : ℕ) (due : Option ℕ) (s : ArmedSince) → a ≤ b → IsArmedSince (later a s) due → IsArmedSince (later b s) due
since_more a b None s le is = tt
since_more a b (Some n) s le is = (is.0, omega (arith, is.1, le))

since_nearer : (calls : ℕ) (was now : Option ℕ) (s : ArmedSince) → ComesNearer calls was now → IsArmedSince s was → IsArmedSince (later calls s) now
since_nearer calls None None s near is = tt
since_nearer calls (Some n) (Some m) s near is = (omega (arith, near.0, is.0), omega (arith, near.1, is.1))
since_nearer calls None (Some m) s near is = absurd near
since_nearer calls (Some n) None s near is = absurd near

-- Calls after calls.
since_both : (a b : ℕ) (due : Option ℕ) (s : ArmedSince) → IsArmedSince (later b (later a s)) due → IsArmedSince (later (a + b) s) due
since_both a b None s is = tt
since_both a b (Some n) s is = (is.0, omega (arith, is.1))

since_none : (due : Option ℕ) (s : ArmedSince) → IsArmedSince s due → IsArmedSince (later 0 s) due
since_none None s is = tt
since_none (Some n) s is = (is.0, omega (arith, is.1))

-- It was set now.
since_set : (due : Option ℕ) (n : ℕ) → IsArmedAt n due → IsArmedSince (record { set = n; since = 0 }) due
since_set None n at = tt
since_set (Some m) n at = (omega (arith, at), omega (arith, at))

-- From any armed fault, or none, to what is set, or else what was there.
due_set : (set was now : Option ℕ) (calls : ℕ) (s : ArmedSince) → ((n : ℕ) → IsArmedAt n was → IsArmedAt (unwrap_or set n) now) → (set ≡ None → IsArmedSince s was) →
    IsArmedSince (option_map_or (λ n. record { set = n; since = 0 }) set (later calls s)) now
due_set (Some k) None now calls s goes is = since_set now k (goes 0 tt)
due_set (Some k) (Some m) now calls s goes is = since_set now k (goes m refl)
due_set None (Some m) None calls s goes is = tt
due_set None (Some m) (Some n) calls s goes is = let same : n ≡ m = goes m refl in let was = is refl in (omega (arith, same, was.0), omega (arith, same, was.1))
due_set None None None calls s goes is = tt
due_set None None (Some n) calls s goes is = let zero_is : n ≡ 0 = goes 0 tt in let one_is : n ≡ 1 = goes 1 tt in absurd (omega (arith, zero_is, one_is))

-- ---- a lane

pub near_here : (v : LaneView) → KeepsNear 0 v v
near_here v id s is = since_none (volume_of v.grains.volumes id).due s is

pub near_on : (a b : ℕ) (u v w : LaneView) → KeepsNear a u v → KeepsNear b v w → KeepsNear (a + b) u w
near_on a b u v w first then id s is = since_both a b (volume_of w.grains.volumes id).due s (then id (later a s) (first id s is))

-- Its own calls of disks bring armed faults nearer.
pub calls_near : (calls : ℕ) (old new : LaneView) → ComeNearer calls old.grains.volumes new.grains.volumes → KeepsNear calls old new
calls_near calls old new near id s is = since_nearer calls (volume_of old.grains.volumes id).due (volume_of new.grains.volumes id).due s (near id) is

-- Room was made in it before.
roomy_same : (old mid new : LaneView) (plan entry : ℕ) → mid ≡ record old { plan_room = plan; entry_room = entry } → IsSameLane mid new → IsSameLane old new
roomy_same old mid new plan entry is same = record {
  lane = same.lane ∙ ap (λ (v : LaneView). v.lane) is;
  lanes = same.lanes ∙ ap (λ (v : LaneView). v.lanes) is;
  grain = same.grain ∙ ap (λ (v : LaneView). v.grains.grain) is;
  disks = same.disks ∙ ap (λ (v : LaneView). v.grains.disks) is;
  silent = same.silent ∙ ap (λ (v : LaneView). v.grains.silent) is;
}

roomy_near : (calls : ℕ) (old mid new : LaneView) → mid.grains ≡ old.grains → KeepsNear calls mid new → KeepsNear calls old new
roomy_near calls old mid new same near id s is =
    let P : GrainsState → Type 0 = λ g. IsDueSince (record mid { grains = g }) id s in
    near id s (subst P (sym same) is)

-- ---- an entry

-- Counted where it was made.
eqb_same : (n : ℕ) → (n == n) ≡ true
eqb_same n = eq-eqb n n refl

pub calls_here : (lane : ℕ) (place : Place) (calls : ℕ) → place ≡ Lane lane → calls_in lane place calls ≡ calls
calls_here lane place calls at =
    ap (λ (p : Place). calls_in lane p calls) at ∙ ap (λ (b : Bool). cond b calls 0) (eqb_same lane)

-- One of a lane sets nothing.
pub lane_sets_nothing : (l : LaneOf) (told : LaneTold) (request : Request) (entry : Entry) (reply : Reply) → LaneAnswers l told request entry → SetsNothing request reply
lane_sets_nothing l told (Asked command) entry reply answers = absurd answers
lane_sets_nothing l told (Unread fault) entry reply answers = λ names id lane lanes. refl
lane_sets_nothing l told (Read part) entry reply answers = λ names id lane lanes. refl
lane_sets_nothing l told (Write part) entry reply answers = λ names id lane lanes. refl
lane_sets_nothing l told (Copy m g) entry reply answers = λ names id lane lanes. refl
lane_sets_nothing l told (Clean m g) entry reply answers = λ names id lane lanes. refl
lane_sets_nothing l told (CopyTurn lane) entry reply answers = λ names id at lanes. refl
lane_sets_nothing l told (CleanTurn lane) entry reply answers = λ names id at lanes. refl

-- Nor does one that is refused.
pub refused_sets_nothing : (request : Request) (refusal : Refusal) → SetsNothing request (Refused refusal)
refused_sets_nothing (Asked (Armfault volume grain calls)) refusal = λ names id lane lanes. refl
refused_sets_nothing (Asked (Mkvdisk name size unit thin)) refusal = λ names id lane lanes. refl
refused_sets_nothing (Asked command) refusal = λ names id lane lanes. refl
refused_sets_nothing request refusal = λ names id lane lanes. refl

-- What it tells of a disk, where it sets nothing.
pub unset_step : (lane lanes : ℕ) (x : Volume) (s : ArmedSince) (entry : Entry) → SetsNothing entry.request entry.reply → armed_step lane lanes x s entry ≡ later (calls_in lane entry.place entry.calls) s
unset_step lane lanes x s entry none =
    ap (λ (set : Option ℕ). option_map_or (λ n. record { set = n; since = 0 }) set (later (calls_in lane entry.place entry.calls) s))
    (none (λ r. refers_to r x.id.0 x.name) x.id.0 lane lanes)

-- A lane that stays the lane that it is, and in which the armed faults of some volumes' disks go on as the entry tells: of those
-- that were there before by what was told of them, and of new ones whatever that was.
pub record GoesBy (entry : Entry) (before after : List Volume) (old new : LaneView) : Type 0 where
  pub lane : new.lane ≡ old.lane
  pub lanes : new.lanes ≡ old.lanes
  pub armed : (x : Volume) (s : ArmedSince) → Contains after x → (Contains before x → IsDueSince old x.id.0 s) → IsDueSince new x.id.0 (armed_step old.lane old.lanes x s entry)

-- It made calls, and told them.
near_goes : (entry : Entry) (volumes : List Volume) (calls : ℕ) (old new : LaneView) → new.lane ≡ old.lane → new.lanes ≡ old.lanes →
    SetsNothing entry.request entry.reply → calls ≤ calls_in old.lane entry.place entry.calls → KeepsNear calls old new → GoesBy entry volumes volumes old new
near_goes entry volumes calls old new lane lanes none told near = record {
  lane = lane;
  lanes = lanes;
  armed = λ x s there is.
      subst (λ (t : ArmedSince). IsDueSince new x.id.0 t) (sym (unset_step old.lane old.lanes x s entry none))
      (since_more calls (calls_in old.lane entry.place entry.calls) (volume_of new.grains.volumes x.id.0).due s told (near x.id.0 s (is there)));
}

still_goes : (entry : Entry) (volumes : List Volume) (v : LaneView) → SetsNothing entry.request entry.reply → GoesBy entry volumes volumes v v
still_goes entry volumes v none = near_goes entry volumes 0 v v refl refl none (omega arith) (near_here v)

pub all_stay_by : (entry : Entry) (volumes : List Volume) (ls : List LaneView) → SetsNothing entry.request entry.reply → EachLane (GoesBy entry volumes volumes) ls ls
all_stay_by entry volumes ls none = record { count = refl; each = λ i d inside. still_goes entry volumes (slice_index_or ls i d) none }

-- One of them made an entry of its own, once room was made in it.
pub one_goes_by : (entry : Entry) (volumes : List Volume) (ls : List LaneView) (place : ℕ) (old ready new : LaneView) (plan room : ℕ) (told : LaneTold) → place < length ls → old ≡ slice_index_or ls place old →
    ready ≡ record old { plan_room = plan; entry_room = room } → IsRightInLane (of ready) told entry → IsSameLane ready new → ComeNearer entry.calls ready.grains.volumes new.grains.volumes →
    EachLane (GoesBy entry volumes volumes) ls (slice_set ls place new)
one_goes_by entry volumes ls place old ready new plan room told inside is made right same nearer = record {
  count = length-set ls place new;
  each = λ i d lt. by_place i d lt (cases_eq i place);
}
  where
    none : SetsNothing entry.request entry.reply
    none = lane_sets_nothing (of ready) told entry.request entry entry.reply right.answers

    here : GoesBy entry volumes volumes old new
    here =
        let stays : IsSameLane old new = roomy_same old ready new plan room made same in
        let at : entry.place ≡ Lane old.lane = right.place ∙ ap (λ (v : LaneView). Lane v.lane) made in
        near_goes entry volumes entry.calls old new stays.lane stays.lanes none (omega (arith, calls_here old.lane entry.place entry.calls at))
        (roomy_near entry.calls old ready new (ap (λ (v : LaneView). v.grains) made) (calls_near entry.calls ready new nearer))

    first : (d : LaneView) → GoesBy entry volumes volumes (slice_index_or ls place d) new
    first d = subst (λ (x : LaneView). GoesBy entry volumes volumes x new) (is ∙ get_or_default ls place old d inside) here

    by_place : (i : ℕ) (d : LaneView) → i < length ls → (i ≡ place) ⊎ (i ≢ place) → GoesBy entry volumes volumes (slice_index_or ls i d) (slice_index_or (slice_set ls place new) i d)
    by_place i d lt (inl at) =
        subst (λ (k : ℕ). GoesBy entry volumes volumes (slice_index_or ls k d) (slice_index_or (slice_set ls place new) k d)) (sym at)
        (subst (λ (x : LaneView). GoesBy entry volumes volumes (slice_index_or ls place d) x) (sym (get_or-set_same ls place new d inside)) (first d))
    by_place i d lt (inr other) =
        subst (λ (x : LaneView). GoesBy entry volumes volumes (slice_index_or ls i d) x) (sym (get_or-set_other ls place i new d other)) (still_goes entry volumes (slice_index_or ls i d) none)

-- ---- a command

-- In tables with one volume of each id and each name a reference names a volume if it is its id or its name.
abbrev pub AreOfOne : List Volume → Type 0
AreOfOne volumes = IsOrdered (λ (v : Volume). v.id.0) (λ (v : Volume). v.name) volumes

one_of_name : (volumes : List Volume) → AreOfOne volumes → (v x : Volume) → Contains volumes v → Contains volumes x → v.name ≡ x.name → v ≡ x
one_of_name volumes ordered v x (i, below, at) (j, under, is) same =
    elim (cases_order i j) [
      | inl here ↦ sym at ∙ ap (λ (k : ℕ). slice_index_or volumes k v) here ∙ get_or_default volumes j v x under ∙ is
      | inr apart ↦ elim apart [
        | inl lt ↦ absurd (ordered.distinct i j v lt under (ap (λ (u : Volume). u.name) at ∙ same ∙ sym (ap (λ (u : Volume). u.name) (get_or_default volumes j v x under ∙ is))))
        | inr lt ↦ absurd (ordered.distinct j i v lt below (ap (λ (u : Volume). u.name) (get_or_default volumes j v x under ∙ is) ∙ sym same ∙ sym (ap (λ (u : Volume). u.name) at)))
      ]
    ]

module _ (t : Tables) (ordered : AreOfOne t.volumes) (x : Volume) (there : Contains t.volumes x) where
  found_is : (r : Ref) (found : Option Volume) → volume_named t r ≡ found → option_map_or (λ (v : Volume). v.id.0 == x.id.0) found false ≡ refers_to r x.id.0 x.name
  found_is r None none = sym (find_misses (λ v. refers_to r v.id.0 v.name) t.volumes x none there)
  found_is r (Some v) some = by (v.id.0 == x.id.0) refl (refers_to r x.id.0 x.name) refl
    where
      from : Contains t.volumes v × (refers_to r v.id.0 v.name ≡ true)
      from = find_from (λ v. refers_to r v.id.0 v.name) t.volumes v some

      by : (b : Bool) → (v.id.0 == x.id.0) ≡ b → (c : Bool) → refers_to r x.id.0 x.name ≡ c → b ≡ c
      by true same true named = refl
      by false other false unnamed = refl
      by true same false unnamed =
          let is : v ≡ x = one_of_id (λ (v : Volume). v.id.0) (λ (v : Volume). v.name) t.volumes v x ordered from.0 there (eqb-true v.id.0 x.id.0 same) in
          absurd (both_ways (refers_to r x.id.0 x.name) unnamed (subst (λ (u : Volume). refers_to r u.id.0 u.name ≡ true) is from.1))
      by false other true named = absurd (same_ref r from.1 named)
        where
          apart : v.id.0 ≡ x.id.0 → ⊥
          apart same = both_ways (v.id.0 == x.id.0) other (eq-eqb v.id.0 x.id.0 same)

          same_ref : (asked : Ref) → refers_to asked v.id.0 v.name ≡ true → refers_to asked x.id.0 x.name ≡ true → ⊥
          same_ref (Id id) one two = apart (sym (eqb-true id v.id.0 one) ∙ eqb-true id x.id.0 two)
          same_ref (Name name) one two =
              let is : v ≡ x = one_of_name t.volumes ordered v x from.0 there (sym ((bytes_eq-Decides name v.name).0 one) ∙ (bytes_eq-Decides name x.name).0 two) in
              apart (ap (λ (u : Volume). u.id.0) is)

  pub names_it : (r : Ref) → refers_to_volume t r x.id.0 ≡ refers_to r x.id.0 x.name
  names_it r = found_is r (volume_named t r) refl

  pub sets_alike : (lane lanes : ℕ) (request : Request) (reply : Reply) →
      set_by (λ r. refers_to_volume t r x.id.0) x.id.0 lane lanes request reply ≡ set_by (λ r. refers_to r x.id.0 x.name) x.id.0 lane lanes request reply
  sets_alike lane lanes request reply = λ k. set_by (λ r. names_it r k) x.id.0 lane lanes request reply

-- A volume that is there after an entry was there before it, or the entry made it, with no armed fault.
abbrev pub ComeBy : Request → Reply → List Volume → List Volume → Type 0
ComeBy request reply before after =
    (x : Volume) → Contains after x → Contains before x ⊎ ((names : Ref → Bool) (lane lanes : ℕ) → set_by names x.id.0 lane lanes request reply ≡ Some 0)

command_goes : (t : Tables) (command : Command) (entry : Entry) (before : List Volume) (old new : LaneView) → entry.request ≡ Asked command → AreOfOne t.volumes →
    ComeBy (Asked command) entry.reply before t.volumes → IsSameLane old new → ArmsAs t command entry.reply old new → GoesBy entry before t.volumes old new
command_goes t command entry before old new asked ordered come same arm = record {
  lane = same.lane;
  lanes = same.lanes;
  armed = λ x s there is.
      let set : Request → Option ℕ = λ r. set_by (λ n. refers_to n x.id.0 x.name) x.id.0 old.lane old.lanes r entry.reply in
      let calls : ℕ = calls_in old.lane entry.place entry.calls in
      let was : Option ℕ = (volume_of old.grains.volumes x.id.0).due in
      let now : Option ℕ = (volume_of new.grains.volumes x.id.0).due in
      let goes : (n : ℕ) → IsArmedAt n was → IsArmedAt (unwrap_or (set (Asked command)) n) now = λ n due.
      subst (λ (o : Option ℕ). IsArmedAt (unwrap_or o n) now) (sets_alike t ordered x there old.lane old.lanes (Asked command) entry.reply) (arm x.id.0 n due) in
      let known : set (Asked command) ≡ None → IsArmedSince s was = λ none. by_coming x s is none (come x there) in
      subst (λ (r : Request). IsArmedSince (option_map_or (λ n. record { set = n; since = 0 }) (set r) (later calls s)) now) (sym asked)
      (due_set (set (Asked command)) was now calls s goes known);
}
  where
    by_coming : (x : Volume) (s : ArmedSince) → (Contains before x → IsDueSince old x.id.0 s) → set_by (λ n. refers_to n x.id.0 x.name) x.id.0 old.lane old.lanes (Asked command) entry.reply ≡ None →
        Contains before x ⊎ ((names : Ref → Bool) (lane lanes : ℕ) → set_by names x.id.0 lane lanes (Asked command) entry.reply ≡ Some 0) → IsDueSince old x.id.0 s
    by_coming x s is none (inl there) = is there
    by_coming x s is none (inr made) = absurd (subst (λ (o : Option ℕ). IfSome o (λ n. ⊥)) (sym none ∙ made (λ n. refers_to n x.id.0 x.name) old.lane old.lanes) tt)

-- All did a command.
pub command_goes_by : (t : Tables) (command : Command) (entry : Entry) (before : List Volume) (old new : List LaneView) → entry.request ≡ Asked command → AreOfOne t.volumes →
    ComeBy (Asked command) entry.reply before t.volumes → EachLane IsSameLane old new → EachLane (ArmsAs t command entry.reply) old new → EachLane (GoesBy entry before t.volumes) old new
command_goes_by t command entry before old new asked ordered come same arm = record {
  count = same.count;
  each = λ i d lt. command_goes t command entry before (slice_index_or old i d) (slice_index_or new i d) asked ordered come (same.each i d lt) (arm.each i d lt);
}

-- One that sets nothing.
pub command_near : (t : Tables) (command : Command) (reply : Reply) (old new : LaneView) → SetsNothing (Asked command) reply → ArmsAs t command reply old new → KeepsNear 0 old new
command_near t command reply old new none arm id s is =
    due_set None (volume_of old.grains.volumes id).due (volume_of new.grains.volumes id).due 0 s
    (λ n due. subst (λ (o : Option ℕ). IsArmedAt (unwrap_or o n) (volume_of new.grains.volumes id).due) (none (λ r. refers_to_volume t r id) id old.lane old.lanes) (arm id n due))
    (λ same. is)

-- ---- all entries

pub entry_armed : (entries : List Entry) (entry : Entry) (before after : List Volume) (old new : List LaneView) → EachLane (GoesBy entry before after) old new →
    All (IsArmedBy entries before) old → All (IsArmedBy (entries ++ entry ∷ []) after) new
entry_armed entries entry before after old new goes are = λ i d lt x there.
    let v : LaneView = slice_index_or old i d in
    let u : LaneView = slice_index_or new i d in
    let inside : i < length old = omega (arith, lt, goes.count) in
    let g : GoesBy entry before after v u = goes.each i d inside in
    let P : ArmedSince → Type 0 = λ s. IsDueSince u x.id.0 s in
    let Q : ℕ → Type 0 = λ lane. IsDueSince u x.id.0 (armed_since lane u.lanes x (entries ++ entry ∷ [])) in
    let R : ℕ → Type 0 = λ lanes. IsDueSince u x.id.0 (armed_since v.lane lanes x (entries ++ entry ∷ [])) in
    subst Q (sym g.lane)
    (subst R (sym g.lanes)
    (subst P (sym (fold-append (armed_step v.lane v.lanes x) (record { set = 0; since = 0 }) entries (entry ∷ [])))
    (g.armed x (armed_since v.lane v.lanes x entries) there (λ was. are i d inside x was))))

-- ---- entries that set nothing

-- The calls of entries in a lane.
abbrev pub all_calls_in : ℕ → List Entry → ℕ
all_calls_in lane [] = 0
all_calls_in lane (entry ∷ entries) = calls_in lane entry.place entry.calls + all_calls_in lane entries

abbrev pub SetNothing : List Entry → Type 0
SetNothing entries = All (λ (entry : Entry). SetsNothing entry.request entry.reply) entries

unset_since : (lane lanes : ℕ) (x : Volume) (due : Option ℕ) (s : ArmedSince) (more : List Entry) → SetNothing more →
    IsArmedSince (later (all_calls_in lane more) s) due → IsArmedSince (fold (armed_step lane lanes x) s more) due
unset_since lane lanes x due s [] none is = back due is
  where
    back : (d : Option ℕ) → IsArmedSince (later 0 s) d → IsArmedSince s d
    back None has = tt
    back (Some n) has = (has.0, omega (arith, has.1))
unset_since lane lanes x due s (entry ∷ more) none is =
    let First : Entry → Type 0 = λ e. SetsNothing e.request e.reply in
    let calls : ℕ = calls_in lane entry.place entry.calls in
    let P : ArmedSince → Type 0 = λ t. IsArmedSince (fold (armed_step lane lanes x) t more) due in
    subst P (sym (unset_step lane lanes x s entry (All-head First entry more none)))
    (unset_since lane lanes x due (later calls s) more (All-tail First entry more none) (apart due is))
  where
    apart : (d : Option ℕ) → IsArmedSince (later (calls_in lane entry.place entry.calls + all_calls_in lane more) s) d → IsArmedSince (later (all_calls_in lane more) (later (calls_in lane entry.place entry.calls) s)) d
    apart None has = tt
    apart (Some n) has = (has.0, omega (arith, has.1))

-- Such entries came, and each lane's armed faults came nearer by no more than the calls that they tell of it.
pub more_armed : (entries more : List Entry) (volumes : List Volume) (old new : List LaneView) → SetNothing more →
    EachLane (λ v u. IsSameLane v u × KeepsNear (all_calls_in v.lane more) v u) old new → All (IsArmedBy entries volumes) old → All (IsArmedBy (entries ++ more) volumes) new
more_armed entries more volumes old new none keeps are = λ i d lt x there.
    let v : LaneView = slice_index_or old i d in
    let u : LaneView = slice_index_or new i d in
    let inside : i < length old = omega (arith, lt, keeps.count) in
    let k = keeps.each i d inside in
    let due : Option ℕ = (volume_of u.grains.volumes x.id.0).due in
    let s : ArmedSince = armed_since v.lane v.lanes x entries in
    let P : ArmedSince → Type 0 = λ t. IsArmedSince t due in
    let Q : ℕ → Type 0 = λ lane. IsArmedSince (armed_since lane u.lanes x (entries ++ more)) due in
    let R : ℕ → Type 0 = λ lanes. IsArmedSince (armed_since v.lane lanes x (entries ++ more)) due in
    subst Q (sym k.0.lane)
    (subst R (sym k.0.lanes)
    (subst P (sym (fold-append (armed_step v.lane v.lanes x) (record { set = 0; since = 0 }) entries more))
    (unset_since v.lane v.lanes x due s more none (k.1 x.id.0 s (are i d inside x there)))))

-- ---- lanes that begin

unarmed_since : (volumes : List VolumeGrains) (id : ℕ) → All (λ (v : VolumeGrains). v.due ≡ Some 0) volumes → IsArmedSince (record { set = 0; since = 0 }) (volume_of volumes id).due
unarmed_since [] id none = tt
unarmed_since (v ∷ vs) id none = by_id (v.volume.0 == id) (unarmed_since vs id (All-tail (λ (x : VolumeGrains). x.due ≡ Some 0) v vs none))
  where
    here : IsArmedSince (record { set = 0; since = 0 }) v.due
    here = subst (λ (due : Option ℕ). IsArmedSince (record { set = 0; since = 0 }) due) (sym (All-head (λ (x : VolumeGrains). x.due ≡ Some 0) v vs none)) (omega arith, omega arith)

    by_id : (b : Bool) → IsArmedSince (record { set = 0; since = 0 }) (volume_of vs id).due → IsArmedSince (record { set = 0; since = 0 }) (cond b v (volume_of vs id)).due
    by_id true behind = here
    by_id false behind = behind

pub quiet_armed : (volumes : List Volume) (ls : List LaneView) → AreQuiet ls → All (IsArmedBy [] volumes) ls
quiet_armed volumes ls quiet = λ i d lt x there. unarmed_since (slice_index_or ls i d).grains.volumes x.id.0 (quiet i d lt).quiet.unarmed
