-- A trigger of mappings that can turn fits the chains, and leaves chains that agree with them.
use Rattle.std.proofs.Common.{◌≡◌, ◌≢◌, ℕ, ◌<◌, Bool, true, false, List, [], ◌∷◌, length, map, get_or, Option, Some, None, refl, sym, ap, subst, ◌∙◌, arith, Contains, inl, inr, AllPairs}
use Rattle.std.specs.Prelude.{◌==◌, find, IsSome}
use Rattle.std.proofs.lemmas.Bool.{cases_order, cases_eq, eqb-true, eq-eqb, both_ways}
use Rattle.std.proofs.lemmas.List.Elements.{Contains-get_or}
use Rattle.fc_base.specs.Need.{is_complete}
use Rattle.fc_base.specs.RestoreGraph.{HasNoLoop}
use Rattle.fc_base.specs.Sheet.{Slot, Sheet, slot_at, shape_of, live_place, mapping_place, volume_grains, grains_at}
use Rattle.fc_base.specs.SheetFacts.{IsSound}
use Rattle.fc_base.specs.SheetFits.{FitsPair, FitsTrigger}
use Rattle.fc_base.specs.SheetStep.{triggered}
use Rattle.fc_base.specs.Tables.{volume_with}
use Rattle.fc_base.specs.declared.ids.VolId.{VolId}
use Rattle.fc_base.specs.declared.request.Pair.{Pair}
use Rattle.fc_base.specs.declared.state.MapState.{MapState}
use Rattle.fc_base.specs.declared.state.MapState.TheVariants.{IdleOrCopied, Prepared, Copying, Stopping, Stopped}
use Rattle.fc_base.specs.declared.volume.Mapping.{Mapping}
use Rattle.fc_base.specs.declared.volume.Volume.{Volume}
use Rattle.fc_books.specs.Accesses.{is_active}
use Rattle.fc_books.specs.Books.{Books}
use Rattle.fc_books.specs.Sound.{Agree, AreTables, SlotByState}
use Rattle.fc_books.specs.Starting.{pair_of}
use Rattle.fc_pick.proofs.Rising.{IsAbove, Rises, rises, pairs_of}
use Rattle.fc_sheets.proofs.Finding.{live_place_at, live_place_is, mapping_place_at, mapping_place_is}
use Rattle.fc_sheets.proofs.Starting.{triggered_sound}
use Rattle.fc_decided.proofs.Agreeing.{volume_from, grains_from}
use Rattle.fc_decided.proofs.Beginning.{Through, triggered_through}
use Rattle.fc_decided.proofs.Carrying.{StaysIn, live_carried}
use Rattle.fc_decided.proofs.Lists.{map_from, map_in, find_from, find_misses}
use Rattle.fc_decided.proofs.Ordered.{found_by_id}
use Rattle.fc_decided.proofs.Receiving.{Receives}
use Rattle.fc_decided.proofs.Setting.{one_mapping}
use Rattle.fc_decided.proofs.Turning.{CanTurn, IsReady}

-- ---- slots by state

pub ready_no_slot : (slots : List Slot) (m : Mapping) (state : MapState) → IsReady state → SlotByState state slots m → mapping_place slots m.id.0 ≡ None
ready_no_slot slots m state (inl e) by = subst (λ (s : MapState). SlotByState s slots m) e by
ready_no_slot slots m state (inr (inl e)) by = subst (λ (s : MapState). SlotByState s slots m) e by
ready_no_slot slots m state (inr (inr e)) by = subst (λ (s : MapState). SlotByState s slots m) e by

ready_not_copying : (state : MapState) → IsReady state → state ≡ Copying → ⊥
ready_not_copying state (inl e) f = (let g : IdleOrCopied ≡ Copying = sym e ∙ f in absurd cc)
ready_not_copying state (inr (inl e)) f = (let g : Stopped ≡ Copying = sym e ∙ f in absurd cc)
ready_not_copying state (inr (inr e)) f = (let g : Prepared ≡ Copying = sym e ∙ f in absurd cc)

-- a mapping with a live slot is copying, and the slot is its target's
pub live_is_copying : (slots : List Slot) (m : Mapping) (k : ℕ) (state : MapState) → SlotByState state slots m → mapping_place slots m.id.0 ≡ Some k → (slot_at slots k).is_live ≡ true → (state ≡ Copying) × ((slot_at slots k).volume ≡ m.target.0)
live_is_copying slots m k Copying by e live =
    let some : Some by.place ≡ Some k = sym by.is_there ∙ e in
    let same : by.place ≡ k = cc in
    (refl, ap (λ (i : ℕ). (slot_at slots i).volume) (sym same) ∙ by.of_target)
live_is_copying slots m k Stopping by e live =
    let some : Some by.place ≡ Some k = sym by.is_there ∙ e in
    let same : by.place ≡ k = cc in
    absurd (both_ways (slot_at slots k).is_live (ap (λ (i : ℕ). (slot_at slots i).is_live) (sym same) ∙ by.liveness) live)
live_is_copying slots m k state by e live = (let none : None ≡ Some k = sym by ∙ e in absurd cc)

-- ---- lists of pairs

pairs_above : (k : ℕ) (ms : List Mapping) → IsAbove (λ (m : Mapping). m.id.0) k ms → IsAbove (λ (p : Pair). p.map.0) k (map pair_of ms)
pairs_above k [] above = tt
pairs_above k (m ∷ ms) above = (above.0, pairs_above k ms above.1)

pairs_rise : (ms : List Mapping) → Rises (λ (m : Mapping). m.id.0) ms → Rises (λ (p : Pair). p.map.0) (map pair_of ms)
pairs_rise [] rising = tt
pairs_rise (m ∷ ms) rising = (pairs_above m.id.0 ms rising.0, pairs_rise ms rising.1)

one_place : {X : Type 0} (key : X → ℕ) (xs : List X) → AllPairs (λ x y. key x < key y) xs → (i j : ℕ) (d : X) → i < length xs → j < length xs → key (get_or xs i d) ≡ key (get_or xs j d) → i ≡ j
one_place key xs rising i j d il jl e = elim (cases_order i j) [
  | inl same ↦ same
  | inr other ↦ elim other [
    | inl lt ↦ absurd (let a = rising i j d lt jl in omega (arith, a, e))
    | inr gt ↦ absurd (let a = rising j i d gt il in omega (arith, a, e))
  ]
]

module _ (b : Books) (maps : List Mapping) (gives : Bool) (tables : AreTables b) (sound : IsSound b.sheet) (agree : Agree b) (can : CanTurn b.tables maps gives) where
  abbrev pub pairs : List Pair
  pairs = map pair_of maps

  -- the live slot of a target, and no copying mapping has it
  abbrev LiveSlot : VolId → ℕ → Type 0
  LiveSlot id grains = (k : ℕ) × (live_place b.sheet.slots id.0 ≡ Some k) × (length (slot_at b.sheet.slots k).held ≡ grains)

  pub live_of : (v : Volume) (id : VolId) → Contains b.tables.volumes v → id.0 ≡ v.id.0 → LiveSlot id v.grains
  live_of v id found e = let a = agree.volumes v found in (a.0, ap (live_place b.sheet.slots) e ∙ a.1, a.2)

  -- source and target, and their sizes
  pub record Ends (m : Mapping) : Type 0 where
    pub source : Volume
    pub target : Volume
    pub source_in : Contains b.tables.volumes source
    pub target_in : Contains b.tables.volumes target
    pub source_id : m.source.0 ≡ source.id.0
    pub target_id : m.target.0 ≡ target.id.0
    pub as_large : target.grains ≡ source.grains

  volume_found : (v : Volume) (id : VolId) → Contains b.tables.volumes v → id.0 ≡ v.id.0 → volume_with b.tables id ≡ Some v
  volume_found v id found e =
      ap (λ (i : ℕ). find (λ (x : Volume). i == x.id.0) b.tables.volumes) e ∙ found_by_id (λ (x : Volume). x.id.0) (λ (x : Volume). x.name) b.tables.volumes v tables.volumes found

  pub ends_of : (m : Mapping) → Contains b.tables.mappings m → Ends m
  ends_of m found =
      let of = agree.mappings m found in
      let s = volume_from b.tables m.source of.source in
      let t = volume_from b.tables m.target of.target in
      record {
        source = s.0;
        target = t.0;
        source_in = s.1;
        target_in = t.1;
        source_id = s.2;
        target_id = t.2;
        as_large = grains_from (volume_with b.tables m.target) t.0 s.0.grains (of.as_large s.0 (volume_found s.0 m.source s.1 s.2)) (volume_found t.0 m.target t.1 t.2);
      }

  -- a copying mapping with one of the targets isn't there
  no_copying : (m n : Mapping) → Contains maps m → Contains b.tables.mappings n → n.target.0 ≡ m.target.0 → n.state ≡ Copying → ⊥
  no_copying m n found there target copying = elim (cases_eq n.id.0 m.id.0) [
    | inl same ↦ ready_not_copying m.state (can.ready m found) (ap (λ (x : Mapping). x.state) (sym (one_mapping b.tables.mappings n m tables.mappings there (can.among m found) same)) ∙ copying)
    | inr other ↦ (let a : is_active Copying ≡ false = ap is_active (sym copying) ∙ can.alone m n found there target other in absurd cc)
  ]

  live_complete : (m : Mapping) (k : ℕ) → Contains maps m → live_place b.sheet.slots m.target.0 ≡ Some k → is_complete (slot_at b.sheet.slots k) ≡ true
  live_complete m k found e = by (slot_at b.sheet.slots k).mapping refl
    where
      slots : List Slot
      slots = b.sheet.slots

      by : (o : Option ℕ) → (slot_at b.sheet.slots k).mapping ≡ o → is_complete (slot_at b.sheet.slots k) ≡ true
      by None none = let at = live_place_at b.sheet.slots m.target.0 k e in sound.mappings.complete k at.there at.is_live none
      by (Some n) some =
          let at = live_place_at b.sheet.slots m.target.0 k e in
          let o = agree.owned k at.there n some in
          let place : mapping_place b.sheet.slots o.0.id.0 ≡ Some k = ap (mapping_place b.sheet.slots) o.2 ∙ mapping_place_is b.sheet.slots n k sound.mappings at.there some in
          let c = live_is_copying b.sheet.slots o.0 k o.0.state (agree.by_state o.0 o.1) place at.is_live in
          absurd (no_copying m o.0 found o.1 (sym c.1 ∙ at.of_volume) c.0)

  fits_one : (m : Mapping) → Contains maps m → FitsPair b.sheet.slots (pair_of m)
  fits_one m found =
      let e = ends_of m (can.among m found) in
      let s = live_of e.source m.source e.source_in e.source_id in
      let t = live_of e.target m.target e.target_in e.target_id in
      record {
        source = s.0;
        target = t.0;
        source_there = s.1;
        target_there = t.1;
        as_large = s.2 ∙ sym e.as_large ∙ sym t.2;
        complete = live_complete m t.0 found t.1;
        no_slot_yet = ready_no_slot b.sheet.slots m m.state (can.ready m found) (agree.by_state m (can.among m found));
      }

  pub fits_trigger : ((m n : Mapping) → Contains maps m → Contains maps n → m.target.0 ≢ n.source.0) → HasNoLoop (shape_of (triggered pairs b.sheet).slots) → FitsTrigger b.sheet pairs
  fits_trigger apart no_loop =
      let one = one_place (λ (p : Pair). p.map.0) pairs (pairs_of (λ (p : Pair). p.map.0) pairs (pairs_rise maps (rises (λ (m : Mapping). m.id.0) maps can.ordered.rising))) in
      record {
        each = λ p found. let r = map_from pair_of maps p found in subst (FitsPair b.sheet.slots) r.2 (fits_one r.0 r.1);
        maps = one;
        targets = λ i j d il jl e.
            let p = map_from pair_of maps (get_or pairs i d) (Contains-get_or pairs i d il) in
            let q = map_from pair_of maps (get_or pairs j d) (Contains-get_or pairs j d jl) in
            let same : p.0.id.0 ≡ q.0.id.0 = can.targets p.0 q.0 p.1 q.1 (ap (λ (x : Pair). x.target.0) p.2 ∙ e ∙ ap (λ (x : Pair). x.target.0) (sym q.2)) in
            one i j d il jl (ap (λ (x : Pair). x.map.0) (sym p.2) ∙ same ∙ ap (λ (x : Pair). x.map.0) q.2);
        apart = λ p q found other e.
            let m = map_from pair_of maps p found in
            let n = map_from pair_of maps q other in
            apart m.0 n.0 m.1 n.1 (ap (λ (x : Pair). x.target.0) m.2 ∙ e ∙ ap (λ (x : Pair). x.source.0) (sym n.2));
        no_loop = no_loop;
      }

  -- ---- the chains after it

  module _ (fits : FitsTrigger b.sheet pairs) where
    abbrev pub after : Sheet
    after = triggered pairs b.sheet

    after_sound : IsSound after
    after_sound = triggered_sound b.sheet pairs sound fits

    pub through : Through b.sheet pairs after
    through = triggered_through b.sheet pairs sound fits

    pair_in : (m : Mapping) → Contains maps m → Contains pairs (pair_of m)
    pair_in m found = map_in pair_of maps m found

    new_live : (v : Volume) → Contains b.tables.volumes v → (k : ℕ) × (live_place after.slots v.id.0 ≡ Some k) × (length (slot_at after.slots k).held ≡ v.grains)
    new_live v there = by (find (λ (m : Mapping). m.target.0 == v.id.0) maps) refl
      where
        by : (o : Option Mapping) → find (λ (m : Mapping). m.target.0 == v.id.0) maps ≡ o → (k : ℕ) × (live_place after.slots v.id.0 ≡ Some k) × (length (slot_at after.slots k).held ≡ v.grains)
        by None e =
            let a = agree.volumes v there in
            let at = live_place_at b.sheet.slots v.id.0 a.0 a.1 in
            live_carried b.sheet.slots after.slots v.id.0 a.0 v.grains after_sound.one_live a.1 a.2
            (through.stays a.0 at.there (λ live p found same.
            let m = map_from pair_of maps p found in
            both_ways (m.0.target.0 == v.id.0) (find_misses (λ (x : Mapping). x.target.0 == v.id.0) maps m.0 e m.1)
            (eq-eqb m.0.target.0 v.id.0 (ap (λ (x : Pair). x.target.0) m.2 ∙ sym same ∙ at.of_volume))))
        by (Some m) e =
            let f = find_from (λ (x : Mapping). x.target.0 == v.id.0) maps m e in
            let target = eqb-true m.target.0 v.id.0 f.1 in
            let own = through.own (pair_of m) (pair_in m f.0) in
            let a = agree.volumes v there in (
              own.place,
              live_place_is after.slots v.id.0 own.place after_sound.one_live (record { there = own.there; is_live = own.is_live; of_volume = own.volume ∙ target }),
              own.size ∙ ap (λ (i : ℕ). volume_grains b.sheet.slots i) target ∙ ap (grains_at b.sheet.slots) a.1 ∙ a.2,
            )

    new_slots : (k : ℕ) → k < length after.slots → IsSome (volume_with b.tables record { 0 = (slot_at after.slots k).volume })
    new_slots k kl = elim (through.comes k kl) [
      | inl new ↦
          let m = map_from pair_of maps new.0 new.1 in
          let of = agree.mappings m.0 (can.among m.0 m.1) in
          subst (λ (i : ℕ). IsSome (volume_with b.tables record { 0 = i })) (ap (λ (x : Pair). x.target.0) m.2 ∙ sym new.3) of.target
      | inr old ↦ subst (λ (i : ℕ). IsSome (volume_with b.tables record { 0 = i })) (sym old.3) (agree.slots old.0 old.1)
    ]

    new_owned : (k n : ℕ) → k < length after.slots → (slot_at after.slots k).mapping ≡ Some n → (m : Mapping) × Contains b.tables.mappings m × (m.id.0 ≡ n)
    new_owned k n kl e = elim (through.comes k kl) [
      | inl new ↦
          let m = map_from pair_of maps new.0 new.1 in
          let some : Some new.0.map.0 ≡ Some n = sym new.2 ∙ e in
          let same : new.0.map.0 ≡ n = cc in
          (m.0, can.among m.0 m.1, ap (λ (x : Pair). x.map.0) m.2 ∙ same)
      | inr old ↦ agree.owned old.0 old.1 n (sym old.2 ∙ e)
    ]

    new_stays : (m : Mapping) → Contains b.tables.mappings m → ((n : Mapping) → Contains maps n → n.id.0 ≢ m.id.0) → (k : ℕ) → mapping_place b.sheet.slots m.id.0 ≡ Some k → StaysIn after.slots (slot_at b.sheet.slots k)
    new_stays m found out k e =
        let at = mapping_place_at b.sheet.slots m.id.0 k e in
        through.stays k at.0 (λ live p pair same.
        let n = map_from pair_of maps p pair in
        let c = live_is_copying b.sheet.slots m k m.state (agree.by_state m found) e live in
        no_copying n.0 m n.1 found (sym c.1 ∙ same ∙ ap (λ (x : Pair). x.target.0) (sym n.2)) c.0)

    new_comes : (m : Mapping) → Contains b.tables.mappings m → ((n : Mapping) → Contains maps n → n.id.0 ≢ m.id.0) → (j : ℕ) → j < length after.slots → (slot_at after.slots j).mapping ≡ Some m.id.0 → (i : ℕ) × (i < length b.sheet.slots) × ((slot_at b.sheet.slots i).mapping ≡ Some m.id.0)
    new_comes m found out j jl e = elim (through.comes j jl) [
      | inl new ↦
          let n = map_from pair_of maps new.0 new.1 in
          let some : Some new.0.map.0 ≡ Some m.id.0 = sym new.2 ∙ e in
          let same : new.0.map.0 ≡ m.id.0 = cc in
          absurd (out n.0 n.1 (ap (λ (x : Pair). x.map.0) n.2 ∙ same))
      | inr old ↦ (old.0, old.1, sym old.2 ∙ e)
    ]

    new_own : (m : Mapping) → Contains maps m → SlotByState Copying after.slots m
    new_own m found =
        let own = through.own (pair_of m) (pair_in m found) in
        record {
          place = own.place;
          is_there = mapping_place_is after.slots m.id.0 own.place after_sound.mappings own.there own.mapping;
          of_target = own.volume;
          liveness = own.is_live;
        }

    pub receives : (restore : Bool) → Receives b maps gives Copying restore tables.mappings can refl after
    receives restore =
        record {
          one_slot = after_sound.mappings;
          volumes = new_live;
          slots = new_slots;
          owned = λ k kl n e. new_owned k n kl e;
          own = new_own;
          stays = new_stays;
          comes = new_comes;
        }
