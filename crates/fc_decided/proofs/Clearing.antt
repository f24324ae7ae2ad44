-- A volume goes.
use Rattle.std.proofs.Common.{◌≡◌, ◌≢◌, ℕ, ◌*◌, ◌<◌, ◌≤◌, ◌^◌, Bool, true, false, cond, not, ◌&&◌, ◌||◌, List, [], ◌∷◌, length, map, remove, Option, Some, None, refl, sym, ap, subst, ◌∙◌, arith, Contains, inl, inr}
use Rattle.std.specs.Prelude.{◌==◌, find, filter, IsSome}
use Rattle.std.specs.List.{list_any}
use Rattle.std.specs.Option.{ForSome}
use Rattle.std.proofs.lemmas.Bool.{cases_Bool, cases_order, eqb-true, eq-eqb, both_ways, false_from_ne_true}
use Rattle.std.proofs.lemmas.Bool.Decides.{nat_tests}
use Rattle.std.proofs.lemmas.List.Elements.{All-filter}
use Rattle.std.proofs.lemmas.List.Sums.{length-filter, count_by-le-length}
use Rattle.fc_base.specs.Counts.{LiveBehind, UsedAt}
use Rattle.fc_base.specs.Need.{IsNeeded}
use Rattle.fc_base.specs.Sheet.{Slot, Sheet, slot_at, column, live_place, mapping_place}
use Rattle.fc_base.specs.SheetFits.{FitsRemove}
use Rattle.fc_base.specs.SheetFacts.{IsSound}
use Rattle.fc_base.specs.SheetStep.{removed, without, at_place}
use Rattle.fc_base.specs.Tables.{Tables, volume_with, after_change}
use Rattle.fc_base.specs.declared.decision.LaneEvent.TheVariants.{Remove}
use Rattle.fc_base.specs.declared.fault.Refusal.TheVariants.{InUse}
use Rattle.fc_base.specs.declared.ids.VolId.{VolId}
use Rattle.fc_base.specs.declared.size.GrainSize.{GrainSize}
use Rattle.fc_base.specs.declared.volume.Change.TheVariants.{RemoveVolume}
use Rattle.fc_base.specs.declared.volume.Mapping.{Mapping}
use Rattle.fc_base.specs.declared.volume.Volume.{Volume}
use Rattle.fc_books.specs.Accesses.{access_by, is_idle}
use Rattle.fc_books.specs.Books.{Books}
use Rattle.fc_books.specs.Copies.{is_used}
use Rattle.fc_books.specs.Making.{remove_volume}
use Rattle.fc_books.specs.Refused.{names_volume}
use Rattle.fc_books.specs.Sound.{Agree, IsOfTables, HasGrains}
use Rattle.fc_books.proofs.Using.{is_used-whole}
use Rattle.fc_entry.specs.Picture.{PlainVolume, Picture}
use Rattle.fc_entry.specs.Refused.{where_}
use Rattle.fc_legal.specs.Stands.{ArePlain, Stands}
use Rattle.fc_legal.specs.Whole.{Whole, volume_told}
use Rattle.fc_rules.specs.LaneTold.{LaneVolume}
use Rattle.fc_moves.proofs.Readers.{reader_is}
use Rattle.fc_sheets.proofs.Events.{removed_sound}
use Rattle.fc_sheets.proofs.Finding.{live_place_at, mapping_place_at, mapping_place_is}
use Rattle.fc_sheets.proofs.Places.{Removed, up, up_in, up_apart, down, removed_at, big_at, remove_is, all_of_small}
use Rattle.fc_decided.specs.Law.{AreSettled}
use Rattle.fc_decided.proofs.Agreeing.{some_is}
use Rattle.fc_decided.proofs.Carrying.{StaysIn, live_carried, slot_carried}
use Rattle.fc_decided.proofs.Frame.{Suits}
use Rattle.fc_decided.proofs.Keeping.{AreAsLarge, stay_all}
use Rattle.fc_decided.proofs.Sparing.{sparing}
use Rattle.fc_decided.proofs.Lists.{find_there, find_filtered, filter_from, any_in}
use Rattle.fc_decided.proofs.Ordered.{filter_ordered}
use Rattle.fc_decided.proofs.Resting.{births_fit}
use Rattle.fc_decided.proofs.Triggering.{live_is_copying}
use Rattle.fc_decided.proofs.Unrefused.{none_where}

turned : (x y : ℕ) → (x == y) ≡ (y == x)
turned x y = grind (arith, nat_tests)

-- ---- lists without a volume

told_without : (t u : Tables) (id : VolId) (vs : List Volume) → u.mappings ≡ t.mappings →
    filter (λ (v : LaneVolume). not (v.volume.0 == id.0)) (map (volume_told t) vs) ≡ map (volume_told u) (filter (λ (v : Volume). not (id.0 == v.id.0)) vs)
told_without t u id [] same = refl
told_without t u id (v ∷ vs) same =
    ap (λ b. cond (not b) (volume_told t v ∷ filter (λ (x : LaneVolume). not (x.volume.0 == id.0)) (map (volume_told t) vs)) (filter (λ (x : LaneVolume). not (x.volume.0 == id.0)) (map (volume_told t) vs))) (turned v.id.0 id.0)
    ∙ by (not (id.0 == v.id.0)) (told_without t u id vs same)
  where
    by : (b : Bool) → filter (λ (x : LaneVolume). not (x.volume.0 == id.0)) (map (volume_told t) vs) ≡ map (volume_told u) (filter (λ (x : Volume). not (id.0 == x.id.0)) vs) →
        cond b (volume_told t v ∷ filter (λ (x : LaneVolume). not (x.volume.0 == id.0)) (map (volume_told t) vs)) (filter (λ (x : LaneVolume). not (x.volume.0 == id.0)) (map (volume_told t) vs))
        ≡ map (volume_told u) (cond b (v ∷ filter (λ (x : Volume). not (id.0 == x.id.0)) vs) (filter (λ (x : Volume). not (id.0 == x.id.0)) vs))
    by true rest = λ k. record { volume = v.id; kind = v.kind; access = access_by (find (λ (m : Mapping). (m.target.0 == v.id.0) && not (is_idle m.state)) (sym same k)) } ∷ rest k
    by false rest = rest

plain_without : (id : VolId) (vs : List Volume) (picture : Picture) → ArePlain vs picture → ArePlain (filter (λ (v : Volume). not (id.0 == v.id.0)) vs) (filter (λ (p : PlainVolume). not (p.volume.0 == id.0)) picture)
plain_without id [] [] plain = tt
plain_without id (v ∷ vs) (p ∷ ps) plain =
    subst (λ (b : Bool). ArePlain (filter (λ (x : Volume). not (id.0 == x.id.0)) (v ∷ vs)) (cond (not b) (p ∷ filter (λ (x : PlainVolume). not (x.volume.0 == id.0)) ps) (filter (λ (x : PlainVolume). not (x.volume.0 == id.0)) ps)))
    (turned id.0 v.id.0 ∙ ap (λ (i : VolId). i.0 == id.0) (sym plain.0))
    (by (not (id.0 == v.id.0)) (plain_without id vs ps plain.3))
  where
    by : (b : Bool) → ArePlain (filter (λ (x : Volume). not (id.0 == x.id.0)) vs) (filter (λ (x : PlainVolume). not (x.volume.0 == id.0)) ps) →
        ArePlain (cond b (v ∷ filter (λ (x : Volume). not (id.0 == x.id.0)) vs) (filter (λ (x : Volume). not (id.0 == x.id.0)) vs)) (cond b (p ∷ filter (λ (x : PlainVolume). not (x.volume.0 == id.0)) ps) (filter (λ (x : PlainVolume). not (x.volume.0 == id.0)) ps))
    by true rest = (plain.0, plain.1, plain.2, rest)
    by false rest = rest
plain_without id [] (p ∷ ps) plain = absurd plain
plain_without id (v ∷ vs) [] plain = absurd plain

-- a needed slot has a live one behind it
needed_behind : (slots : List Slot) (k : ℕ) → IsNeeded slots k → LiveBehind slots k
needed_behind slots k needed =
    let r = reader_is (column slots needed.0) k k needed.1 needed.2 in
    let before : k ≤ needed.1 = r.reads.before in
    let other : needed.1 ≢ k = r.other in
    (needed.1, r.there, omega (arith, before, other), r.is_live, sym r.reads.one_chain)

-- What is so of a volume that isn't refused to go.
pub record CanGo (b : Books) (v : Volume) : Type 0 where
  pub inside : Contains b.tables.volumes v
  pub unnamed : (m : Mapping) → Contains b.tables.mappings m → (m.source.0 ≢ v.id.0) × (m.target.0 ≢ v.id.0)
  pub unused : UsedAt b.sheet.slots v.id.0 → ⊥

used_is : (slots : List Slot) (v : VolId) → UsedAt slots v.0 → is_used slots v ≡ true
used_is slots v used = sym (is_used-whole slots v true ((λ t. used), (λ u. refl)))

pub can_go : (b : Books) (v : Volume) → Contains b.tables.volumes v → where_ (list_any (names_volume v) b.tables.mappings || is_used b.sheet.slots v.id) (InUse v.id) ≡ None → CanGo b v
can_go b v inside e =
    let none = neither (list_any (names_volume v) b.tables.mappings) (is_used b.sheet.slots v.id) (none_where (list_any (names_volume v) b.tables.mappings || is_used b.sheet.slots v.id) (InUse v.id) e) in
    record {
      inside = inside;
      unnamed = λ m found.
          let out = neither (m.source.0 == v.id.0) (m.target.0 == v.id.0) (any_in (names_volume v) b.tables.mappings m none.0 found) in
          ((λ s. both_ways (m.source.0 == v.id.0) out.0 (eq-eqb m.source.0 v.id.0 s)), (λ t. both_ways (m.target.0 == v.id.0) out.1 (eq-eqb m.target.0 v.id.0 t)));
      unused = λ used. both_ways (is_used b.sheet.slots v.id) none.1 (used_is b.sheet.slots v.id used);
    }
  where
    neither : (x y : Bool) → (x || y) ≡ false → (x ≡ false) × (y ≡ false)
    neither false false e = (refl, refl)
    neither true y e = absurd cc
    neither false true e = absurd cc

module _ (grain : GrainSize) (decisions : ℕ) (w : Whole) (v : Volume) (st : Stands decisions w) (settled : AreSettled w.books) (can : CanGo w.books v) where
  stays : Volume → Bool
  stays x = not (v.id.0 == x.id.0)

  abbrev slots : List Slot
  slots = w.books.sheet.slots

  own : (k : ℕ) × (live_place slots v.id.0 ≡ Some k) × (length (slot_at slots k).held ≡ v.grains)
  own = st.sound.agree.volumes v can.inside

  place : ℕ
  place = own.0

  is_place : live_place slots v.id.0 ≡ Some place
  unfolding place
  is_place = own.1

  -- its slot is no mapping's
  no_mapping : (slot_at slots place).mapping ≡ None
  no_mapping = by (slot_at slots place).mapping refl
    where
      by : (o : Option ℕ) → (slot_at slots place).mapping ≡ o → (slot_at slots place).mapping ≡ None
      by None e = e
      by (Some n) e =
          let at = live_place_at slots v.id.0 place is_place in
          let o = st.sound.agree.owned place at.there n e in
          let found : mapping_place slots o.0.id.0 ≡ Some place = ap (mapping_place slots) o.2 ∙ mapping_place_is slots n place st.sound.sheet.mappings at.there e in
          let c = live_is_copying slots o.0 place o.0.state (st.sound.agree.by_state o.0 o.1) found at.is_live in
          absurd ((can.unnamed o.0 o.1).1 (sym c.1 ∙ at.of_volume))

  behind_place : LiveBehind slots place → ⊥
  behind_place live = let at = live_place_at slots v.id.0 place is_place in can.unused (place, at.there, at.of_volume, live)

  -- it stands alone
  only_slot : (j : ℕ) → j < length slots → (slot_at slots j).volume ≡ v.id.0 → j ≡ place
  only_slot j jl e =
      let at = live_place_at slots v.id.0 place is_place in
      elim (cases_Bool (slot_at slots j).is_live) [
        | inl live ↦ st.sound.sheet.one_live j place jl at.there live at.is_live (e ∙ sym at.of_volume)
        | inr old ↦ absurd (can.unused (j, jl, e, needed_behind slots j (settled j jl old)))
      ]

  only_in_chain : (j : ℕ) → j < length slots → (slot_at slots j).chain ≡ (slot_at slots place).chain → j ≡ place
  only_in_chain j jl e =
      let at = live_place_at slots v.id.0 place is_place in
      elim (cases_order j place) [
        | inl same ↦ same
        | inr other ↦ elim other [
          | inl before ↦ (let le = st.firsts j place jl at.there at.is_live no_mapping e in absurd (omega (arith, le, before)))
          | inr behind ↦ elim (cases_Bool (slot_at slots j).is_live) [
            | inl live ↦ absurd (behind_place (j, jl, behind, live, e))
            | inr old ↦
                let n = needed_behind slots j (settled j jl old) in
                let further = n.2 in
                absurd (behind_place (n.0, n.1, omega (arith, behind, further), n.3, n.4 ∙ e))
          ]
        ]
      ]

  fits_remove : FitsRemove slots v.id.0
  fits_remove = record { place = place; is_there = is_place; alone = λ j jl e. elim e [ inl volume ↦ only_slot j jl volume | inr chain ↦ only_in_chain j jl chain ] }

  new_sheet : Sheet
  new_sheet = removed v.id.0 w.books.sheet

  new_is : new_sheet ≡ without place w.books.sheet
  unfolding new_sheet
  new_is = ap (λ (o : Option ℕ). at_place without o w.books.sheet) is_place

  new_tables : Tables
  new_tables = after_change w.books.tables (RemoveVolume v.id)

  other_volume : (id : VolId) → id.0 ≢ v.id.0 → volume_with new_tables id ≡ volume_with w.books.tables id
  unfolding new_tables
  other_volume id other =
      find_filtered (λ (x : Volume). id.0 == x.id.0) (λ (x : Volume). not (v.id.0 == x.id.0)) w.books.tables.volumes
      (λ x found e. ap not (false_from_ne_true (v.id.0 == x.id.0) (λ q. other (eqb-true id.0 x.id.0 e ∙ sym (eqb-true v.id.0 x.id.0 q)))))

  still_of : (m : Mapping) → Contains w.books.tables.mappings m → IsOfTables new_tables m
  unfolding new_tables
  still_of m found =
      let of = st.sound.agree.mappings m found in
      let out = can.unnamed m found in
      let s = other_volume m.source out.0 in
      let t = other_volume m.target out.1 in
      record {
        source = subst (λ (o : Option Volume). IsSome o) (sym s) of.source;
        target = subst (λ (o : Option Volume). IsSome o) (sym t) of.target;
        apart = of.apart;
        as_large = λ x e. subst (λ (o : Option Volume). HasGrains o x.grains) (sym t) (of.as_large x (sym s ∙ e));
        group = of.group;
        state = of.state;
      }

  abbrev small : List Slot
  small = remove slots place

  small_is : Removed slots small place
  small_is = let at = live_place_at slots v.id.0 place is_place in remove_is slots place at.there

  other_stays : (k : ℕ) → k < length slots → k ≢ place → StaysIn small (slot_at slots k)
  other_stays k kl other = elim (down slots small place small_is k kl) [
    | inl same ↦ absurd (other same)
    | inr d ↦ (d.0, d.1, sym (big_at slots small place small_is d.0 k d.2))
  ]

  small_sound : IsSound (without place w.books.sheet)
  unfolding new_sheet
  small_sound = subst IsSound new_is (removed_sound w.books.sheet v.id.0 st.sound.sheet fits_remove)

  gone_agree : Agree (record w.books { tables = new_tables; sheet = without place w.books.sheet })
  unfolding new_tables
  gone_agree =
      let a = st.sound.agree in
      let sound = small_sound in
      record {
        volumes = λ x found.
            let f = filter_from (λ (y : Volume). not (v.id.0 == y.id.0)) w.books.tables.volumes x found in
            let r = a.volumes x f.0 in
            let at = live_place_at slots x.id.0 r.0 r.1 in
            let own_at = live_place_at slots v.id.0 place is_place in
            live_carried slots small x.id.0 r.0 x.grains sound.one_live r.1 r.2
            (other_stays r.0 at.there (λ e.
            let same : v.id.0 ≡ x.id.0 = sym own_at.of_volume ∙ ap (λ (i : ℕ). (slot_at slots i).volume) (sym e) ∙ at.of_volume in
            let gone : (not (v.id.0 == x.id.0)) ≡ false = ap not (eq-eqb v.id.0 x.id.0 same) in
            both_ways (not (v.id.0 == x.id.0)) gone f.1));
        slots = λ j jl.
            let e = removed_at slots small place small_is j in
            let kl = up_in slots small place small_is j jl in
            let out : (slot_at small j).volume ≢ v.id.0 = λ q. up_apart place j (only_slot (up place j) kl (ap (λ (t : Slot). t.volume) (sym e) ∙ q)) in
            subst (λ (o : Option Volume). IsSome o) (sym (other_volume (record { 0 = (slot_at small j).volume }) out))
            (subst (λ (t : Slot). IsSome (volume_with w.books.tables record { 0 = t.volume })) (sym e) (a.slots (up place j) kl));
        owned = all_of_small slots small place small_is (λ (t : Slot). ForSome t.mapping (λ n. (m : Mapping) × Contains w.books.tables.mappings m × (m.id.0 ≡ n))) a.owned;
        mappings = still_of;
        by_state = λ m found. slot_carried m.state slots small m sound.mappings
            (λ k e.
            let at = mapping_place_at slots m.id.0 k e in
            other_stays k at.0 (λ same. let some : None ≡ Some m.id.0 = sym no_mapping ∙ ap (λ (i : ℕ). (slot_at slots i).mapping) (sym same) ∙ at.1 in absurd cc))
            (λ j jl e. (up place j, up_in slots small place small_is j jl, ap (λ (t : Slot). t.mapping) (sym (removed_at slots small place small_is j)) ∙ e))
            (a.by_state m found);
        one_busy = a.one_busy;
      }

  sizes_stay : AreAsLarge w.books.tables new_tables
  unfolding new_tables
  sizes_stay m found grains has = subst (λ (o : Option Volume). HasGrains o grains) (sym (other_volume m.target (can.unnamed m found).1)) has

  pub remove_volume_suits : decisions < 2 ^ 32 → Suits grain decisions w (remove_volume v)
  unfolding new_tables new_sheet
  remove_volume_suits few =
      let b = w.books in
      let t = st.sound.tables in
      let there = find_there (λ (x : Volume). v.id.0 == x.id.0) b.tables.volumes v can.inside (eq-eqb v.id.0 v.id.0 refl) in
      let births : new_sheet.births ≡ b.sheet.births = ap (λ (s : Sheet). s.births) new_is in
      let shorter = length-filter (λ (x : Volume). not (v.id.0 == x.id.0)) b.tables.volumes in
      let least = count_by-le-length (λ (x : Volume). not (v.id.0 == x.id.0)) b.tables.volumes in
      let most = st.few.volumes_at_once in
      record {
        fits = (fits_remove, subst (λ (n : ℕ). n < 2 ^ 64) (sym births) (births_fit b decisions few st.few));
        disks = (tt, tt);
        no_work = (tt, tt);
        gone = (tt, tt);
        fit_changes = (some_is (volume_with b.tables v.id) there.0 there.1, tt);
        picture = refl;
        volumes = told_without b.tables new_tables v.id b.tables.volumes refl;
        later = omega arith;
        tables = record {
          volumes = filter_ordered (λ (x : Volume). x.id.0) (λ (x : Volume). x.name) (λ (x : Volume). not (v.id.0 == x.id.0)) b.tables.volumes t.volumes;
          mappings = t.mappings;
          groups = t.groups;
          new_volume = All-filter (λ (x : Volume). not (v.id.0 == x.id.0)) (λ (x : Volume). x.id.0 < b.next_volume) b.tables.volumes t.new_volume;
          new_mapping = t.new_mapping;
          new_group = t.new_group;
        };
        agree = subst (λ (s : Sheet). Agree (record b { tables = new_tables; sheet = s })) (sym new_is) gone_agree;
        few = record {
          volumes = omega (arith, st.few.volumes);
          mappings = omega (arith, st.few.mappings);
          groups = omega (arith, st.few.groups);
          births = (let le : b.sheet.births ≤ decisions * 2 ^ 20 = st.few.births in omega (arith, le, births));
          at_once = st.few.at_once;
          volumes_at_once = omega (arith, shorter, least, most);
        };
        plain = plain_without v.id b.tables.volumes w.picture st.plain;
        begins = sparing (can.unnamed, tt);
        keeps = record { stay = stay_all b.tables.mappings (Remove v.id ∷ []); as_large = sizes_stay };
      }
