-- The books after mappings turned: accesses as lanes are told, and tables that agree with the chains.
use Rattle.std.proofs.Common.{◌≡◌, ◌≢◌, ℕ, ◌<◌, Bool, true, false, cond, List, [], ◌∷◌, length, map, fold, Option, Some, None, refl, sym, ap, subst, ◌∙◌, Contains, ◌⊎◌, inl, inr}
use Rattle.std.specs.Prelude.{◌==◌, find, IsSome}
use Rattle.std.specs.Option.{ForSome}
use Rattle.std.proofs.lemmas.Bool.{cases_Bool, eqb-true, eq-eqb, both_ways}
use Rattle.fc_base.specs.Sheet.{Sheet, slot_at, live_place, mapping_place}
use Rattle.fc_base.specs.SheetFacts.{HasMappings}
use Rattle.fc_base.specs.States.{access_of}
use Rattle.fc_base.specs.Tables.{volume_with}
use Rattle.fc_base.specs.declared.decision.LaneEvent.{LaneEvent}
use Rattle.fc_base.specs.declared.decision.LaneEvent.TheVariants.{Access as SetAccess}
use Rattle.fc_base.specs.declared.ids.VolId.{VolId}
use Rattle.fc_base.specs.declared.state.Access.{Access}
use Rattle.fc_base.specs.declared.state.MapState.{MapState}
use Rattle.fc_base.specs.declared.state.MapState.TheVariants.{Empty, Stopped}
use Rattle.fc_base.specs.declared.volume.Mapping.{Mapping}
use Rattle.fc_base.specs.declared.volume.Volume.{Volume}
use Rattle.fc_books.specs.Accesses.{access_in, is_idle, is_stopped}
use Rattle.fc_books.specs.Books.{Books}
use Rattle.fc_books.specs.Sound.{Agree, IsOfTables, SlotByState}
use Rattle.fc_decided.proofs.Agreeing.{of_tables_same, slot_as}
use Rattle.fc_decided.proofs.Carrying.{StaysIn, slot_carried}
use Rattle.fc_decided.proofs.Lists.{first_in, later_in, in_cases, none_in, map_from, map_in, find_from, find_misses}
use Rattle.fc_decided.proofs.Reaching.{OneBusy, access_is, access_kept, reached, AreWithin}
use Rattle.fc_decided.proofs.Setting.{AreOrdered, Restated, set_in, one_mapping, restated_in, sets_ordered, with_mappings}
use Rattle.fc_decided.proofs.Turning.{CanTurn, turned, news, Outcome, Outcome.turns, Outcome.gives_up, Outcome.keeps, outcome, all_restated, superseded_parts, one_busy_then}

-- ---- accesses

-- Lanes are told how hosts reach each target.
abbrev pub told_accesses : MapState → List Mapping → List LaneEvent
told_accesses state maps = map (λ (m : Mapping). SetAccess m.target (access_of m.id state m.complete)) maps

pub accesses_within : (state : MapState) (maps : List Mapping) → AreWithin (told_accesses state maps)
accesses_within state [] = tt
accesses_within state (m ∷ ms) = (tt, accesses_within state ms)

reached_here : (v : VolId) (a now : Access) (target : VolId) → v.0 ≡ target.0 → reached v a (SetAccess target now) ≡ now
reached_here v a now target e = ap (λ b. cond b now a) (eq-eqb v.0 target.0 e)

reached_other : (v : VolId) (a now : Access) (target : VolId) → (v.0 == target.0) ≡ false → reached v a (SetAccess target now) ≡ a
reached_other v a now target e = ap (λ b. cond b now a) e

reached_none : (v : VolId) (state : MapState) (ms : List Mapping) (a : Access) → ((n : Mapping) → Contains ms n → n.target.0 ≢ v.0) → fold (reached v) a (told_accesses state ms) ≡ a
reached_none v state [] a none = refl
reached_none v state (m ∷ ms) a none = elim (cases_Bool (v.0 == m.target.0)) [
  | inl here ↦ absurd (none m (first_in m ms) (sym (eqb-true v.0 m.target.0 here)))
  | inr other ↦
      ap (λ (x : Access). fold (reached v) x (told_accesses state ms)) (reached_other v a (access_of m.id state m.complete) m.target other)
      ∙ reached_none v state ms a (λ n found. none n (later_in m n ms found))
]

reached_one : (v : VolId) (state : MapState) (now : Access) (ms : List Mapping) (a : Access) → ((n : Mapping) → Contains ms n → n.target.0 ≡ v.0 → access_of n.id state n.complete ≡ now) →
    (a ≡ now) ⊎ ((n : Mapping) × Contains ms n × (n.target.0 ≡ v.0)) → fold (reached v) a (told_accesses state ms) ≡ now
reached_one v state now [] a each (inl e) = e
reached_one v state now [] a each (inr some) = absurd (none_in some.0 some.1)
reached_one v state now (m ∷ ms) a each some = elim (cases_Bool (v.0 == m.target.0)) [
  | inl here ↦
      let e = eqb-true v.0 m.target.0 here in
      reached_one v state now ms (reached v a (SetAccess m.target (access_of m.id state m.complete))) (λ n found. each n (later_in m n ms found))
      (inl (reached_here v a (access_of m.id state m.complete) m.target e ∙ each m (first_in m ms) (sym e)))
  | inr other ↦
      ap (λ (x : Access). fold (reached v) x (told_accesses state ms)) (reached_other v a (access_of m.id state m.complete) m.target other)
      ∙ reached_one v state now ms a (λ n found. each n (later_in m n ms found)) (still some other)
]
  where
    still : (a ≡ now) ⊎ ((n : Mapping) × Contains (m ∷ ms) n × (n.target.0 ≡ v.0)) → (v.0 == m.target.0) ≡ false → (a ≡ now) ⊎ ((n : Mapping) × Contains ms n × (n.target.0 ≡ v.0))
    still (inl e) other = inl e
    still (inr there) other = elim (in_cases m there.0 ms there.1) [
      | inl same ↦ absurd (both_ways (v.0 == m.target.0) other (eq-eqb v.0 m.target.0 (sym there.2 ∙ ap (λ (z : Mapping). z.target.0) (sym same))))
      | inr rest ↦ inr (there.0, rest, there.2)
    ]

module _ (b : Books) (maps : List Mapping) (gives : Bool) (state : MapState) (restore : Bool) (ordered : AreOrdered b.tables.mappings) (can : CanTurn b.tables maps gives) (busy : is_idle state ≡ false) where
  abbrev pub fresh : List Mapping
  fresh = news b.tables maps gives state restore ordered can busy

  abbrev pub then_books : Books
  then_books = with_mappings b (map (set_in fresh) b.tables.mappings)

  becomes : (m : Mapping) → Contains b.tables.mappings m → Outcome b.tables maps gives state restore ordered can busy m (set_in fresh m)
  becomes m found = outcome b.tables maps gives state restore ordered can busy m found

  restated : (m : Mapping) → Contains b.tables.mappings m → Restated m (set_in fresh m)
  restated m found = restated_in b.tables.mappings fresh m ordered (all_restated b.tables maps gives state restore ordered can busy) found

  -- one of them is as it was told
  turned_is : (m : Mapping) → Contains maps m → set_in fresh m ≡ turned state restore m
  turned_is m found = by (becomes m (can.among m found))
    where
      by : Outcome b.tables maps gives state restore ordered can busy m (set_in fresh m) → set_in fresh m ≡ turned state restore m
      by (turns inside e) = e
      by (gives_up out s e) = absurd (out m found refl)
      by (keeps out s e) = absurd (out m found refl)

  one_target : (m n : Mapping) → Contains maps m → Contains maps n → m.target.0 ≡ n.target.0 → m ≡ n
  one_target m n found other e = one_mapping b.tables.mappings m n ordered (can.among m found) (can.among n other) (can.targets m n found other e)

  -- those with another target stay as they were
  untouched : (v : VolId) → ((n : Mapping) → Contains maps n → n.target.0 ≢ v.0) → (m : Mapping) → Contains b.tables.mappings m → m.target.0 ≡ v.0 → set_in fresh m ≡ m
  untouched v none m found e = by (becomes m found)
    where
      by : Outcome b.tables maps gives state restore ordered can busy m (set_in fresh m) → set_in fresh m ≡ m
      by (turns inside f) = absurd (none m inside e)
      by (gives_up out s f) = (let p = (superseded_parts b.tables maps gives state restore ordered can busy m s).1 in absurd (none p.0 p.1 (p.2 ∙ e)))
      by (keeps out s f) = f

  pub accesses_are : OneBusy b.tables.mappings → (v : VolId) → fold (reached v) (access_in b.tables v) (told_accesses state maps) ≡ access_in then_books.tables v
  accesses_are one v = by (find (λ (m : Mapping). m.target.0 == v.0) maps) refl
    where
      by : (o : Option Mapping) → find (λ (m : Mapping). m.target.0 == v.0) maps ≡ o → fold (reached v) (access_in b.tables v) (told_accesses state maps) ≡ access_in then_books.tables v
      by None e =
          let none : (n : Mapping) → Contains maps n → n.target.0 ≢ v.0 = λ n found same. both_ways (n.target.0 == v.0) (find_misses (λ (m : Mapping). m.target.0 == v.0) maps n e found) (eq-eqb n.target.0 v.0 same) in
          reached_none v state maps (access_in b.tables v) none
          ∙ sym (access_kept b.tables then_books.tables (set_in fresh) v refl (λ m found. (restated m found).target) (untouched v none))
      by (Some m) e =
          let f = find_from (λ (n : Mapping). n.target.0 == v.0) maps m e in
          let target = eqb-true m.target.0 v.0 f.1 in
          let is : set_in fresh m ≡ turned state restore m = turned_is m f.0 in
          let inside : Contains (map (set_in fresh) b.tables.mappings) (turned state restore m) = subst (λ (x : Mapping). Contains (map (set_in fresh) b.tables.mappings) x) is (map_in (set_in fresh) b.tables.mappings m (can.among m f.0)) in
          reached_one v state (access_of m.id state m.complete) maps (access_in b.tables v)
          (λ n found same. ap (λ (x : Mapping). access_of x.id state x.complete) (one_target n m found f.0 (same ∙ sym target)))
          (inr (m, f.0, target))
          ∙ sym (access_is then_books.tables v (turned state restore m) (sets_ordered b.tables.mappings fresh ordered (all_restated b.tables maps gives state restore ordered can busy))
          (one_busy_then b.tables maps gives state restore ordered can busy one) inside target busy)

  -- ---- tables and chains

  -- The chains then: each volume keeps its live slot; of slots of mappings only theirs come, and all others stay.
  pub record Receives (new : Sheet) : Type 0 where
    pub one_slot : HasMappings new.slots
    pub volumes : (v : Volume) → Contains b.tables.volumes v → (k : ℕ) × (live_place new.slots v.id.0 ≡ Some k) × (length (slot_at new.slots k).held ≡ v.grains)
    pub slots : (k : ℕ) → k < length new.slots → IsSome (volume_with b.tables record { 0 = (slot_at new.slots k).volume })
    pub owned : (k : ℕ) → k < length new.slots → ForSome (slot_at new.slots k).mapping (λ n. (m : Mapping) × Contains b.tables.mappings m × (m.id.0 ≡ n))
    pub own : (m : Mapping) → Contains maps m → SlotByState state new.slots m
    pub stays : (m : Mapping) → Contains b.tables.mappings m → ((n : Mapping) → Contains maps n → n.id.0 ≢ m.id.0) → (k : ℕ) → mapping_place b.sheet.slots m.id.0 ≡ Some k → StaysIn new.slots (slot_at b.sheet.slots k)
    pub comes : (m : Mapping) → Contains b.tables.mappings m → ((n : Mapping) → Contains maps n → n.id.0 ≢ m.id.0) → (j : ℕ) → j < length new.slots → (slot_at new.slots j).mapping ≡ Some m.id.0 → (i : ℕ) × (i < length b.sheet.slots) × ((slot_at b.sheet.slots i).mapping ≡ Some m.id.0)

  state_then : (m x : Mapping) → (state ≡ Empty → ⊥) → (m.state ≡ Empty → ⊥) → Outcome b.tables maps gives state restore ordered can busy m x → x.state ≡ Empty → ⊥
  state_then m x some was (turns inside e) f = some (ap (λ (z : Mapping). z.state) (sym e) ∙ f)
  state_then m x some was (gives_up out s e) f = (let g = ap (λ (z : Mapping). z.state) (sym e) ∙ f in absurd cc)
  state_then m x some was (keeps out s e) f = was (ap (λ (z : Mapping). z.state) (sym e) ∙ f)

  stopped_is : (s : MapState) → is_stopped s ≡ true → s ≡ Stopped
  stopped_is Stopped e = refl
  stopped_is state e = absurd cc

  slot_then : (new : Sheet) → Receives new → (m x : Mapping) → Contains b.tables.mappings m → SlotByState m.state b.sheet.slots m → Outcome b.tables maps gives state restore ordered can busy m x → SlotByState x.state new.slots x
  slot_then new r m x found was (turns inside e) = subst (λ (z : Mapping). SlotByState z.state new.slots z) (sym e) (slot_as state new.slots m (turned state restore m) refl refl (r.own m inside))
  slot_then new r m x found was (gives_up out s e) =
      let stopped = stopped_is m.state (superseded_parts b.tables maps gives state restore ordered can busy m s).0 in
      let carried : SlotByState Stopped new.slots m = slot_carried Stopped b.sheet.slots new.slots m r.one_slot (r.stays m found out) (r.comes m found out) (subst (λ (z : MapState). SlotByState z b.sheet.slots m) stopped was) in
      subst (λ (z : Mapping). SlotByState z.state new.slots z) (sym e) carried
  slot_then new r m x found was (keeps out s e) =
      subst (λ (z : Mapping). SlotByState z.state new.slots z) (sym e) (slot_carried m.state b.sheet.slots new.slots m r.one_slot (r.stays m found out) (r.comes m found out) was)

  pub turned_agree : (new : Sheet) → (state ≡ Empty → ⊥) → Receives new → Agree b → Agree (record then_books { sheet = new })
  turned_agree new some r a =
      let all = b.tables.mappings in
      record {
        volumes = r.volumes;
        slots = r.slots;
        owned = λ k kl n e.
            let o = r.owned k kl n e in
            (set_in fresh o.0, map_in (set_in fresh) all o.0 o.1, (restated o.0 o.1).id ∙ o.2);
        mappings = λ x found.
            let m = map_from (set_in fresh) all x found in
            let of = a.mappings m.0 m.1 in
            let s = restated m.0 m.1 in
            subst (IsOfTables then_books.tables) m.2
            (of_tables_same b.tables then_books.tables m.0 (set_in fresh m.0) refl s.source s.target (state_then m.0 (set_in fresh m.0) some of.state (becomes m.0 m.1)) (λ g e. of.group g (s.group g e)) of);
        by_state = λ x found.
            let m = map_from (set_in fresh) all x found in
            subst (λ (z : Mapping). SlotByState z.state new.slots z) m.2 (slot_then new r m.0 (set_in fresh m.0) m.1 (a.by_state m.0 m.1) (becomes m.0 m.1));
        one_busy = one_busy_then b.tables maps gives state restore ordered can busy a.one_busy;
      }
