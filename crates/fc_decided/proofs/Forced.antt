-- A force takes out the slot of a mapping and those of its dependents: it fits.
use Rattle.std.proofs.Common.{◌≡◌, ◌≢◌, ℕ, zero, suc, ◌+◌, ◌<◌, ◌≤◌, Bool, true, false, cond, ◌==◌, Option, Some, None, is_some, List, [], ◌∷◌, length, map, fold, get_or, refl, sym, ap, subst, ◌∙◌, arith, Contains, inl, inr}
use Rattle.std.specs.List.{list_any, list_all}
use Rattle.std.specs.Option.{option_map_or}
use Rattle.std.proofs.lemmas.Bool.{cases_eq}
use Rattle.std.proofs.lemmas.List.Kept.{AllPairs-filter}
use Rattle.fc_base.specs.Need.{ReadsAt, IsDependent}
use Rattle.fc_base.specs.Sheet.{Slot, Sheet, slot_at, column, mapping_place}
use Rattle.fc_base.specs.SheetFacts.{HasSizes, HasMappings, IsSound}
use Rattle.fc_base.specs.SheetFits.{FitsForce, IsSlotOf}
use Rattle.fc_base.specs.SheetStep.{at_place, forced_at, forced_map, detached_at, without}
use Rattle.fc_base.specs.declared.ids.MapId.{MapId}
use Rattle.fc_base.specs.declared.volume.Mapping.{Mapping}
use Rattle.fc_books.proofs.Depending.{AreDependents, dependent_places-are}
use Rattle.fc_books.specs.Books.{Books}
use Rattle.fc_books.specs.Copies.{dependents, places_behind, has_slot_among}
use Rattle.fc_moves.proofs.Readers.{IsHolder, holder_is, one_holder, own_holder}
use Rattle.fc_moves.proofs.Search.{cases_option}
use Rattle.fc_sheets.proofs.Finding.{mapping_place_is}
use Rattle.fc_sheets.proofs.Forcing.{Among}
use Rattle.fc_decided.proofs.Counting.{held_below}
use Rattle.fc_decided.proofs.Joint.{Joint}
use Rattle.fc_decided.proofs.Lists.{first_in, later_in, in_cases, filter_from, filter_in, map_from, map_in}
use Rattle.fc_decided.proofs.Setting.{AreOrdered}
use Rattle.fc_decided.proofs.Seen.{seen_slot, seen_place}

-- ---- the dependents of a mapping's slot

pub record Dependents (b : Books) (m : Mapping) (k : ℕ) : Type 0 where
  pub ordered : AreOrdered (dependents b m)
  pub among : (d : Mapping) → Contains (dependents b m) d → Contains b.tables.mappings d
  pub places : (d : Mapping) → Contains (dependents b m) d → (j : ℕ) × (mapping_place b.sheet.slots d.id.0 ≡ Some j) × IsDependent b.sheet.slots k j
  pub all : (d : Mapping) (j : ℕ) → Contains b.tables.mappings d → mapping_place b.sheet.slots d.id.0 ≡ Some j → IsDependent b.sheet.slots k j → Contains (dependents b m) d

abbrev found_test : List ℕ → Option ℕ → Bool
found_test places o = option_map_or (λ k. list_any (λ j. j == k) places) o false

place_from : (slots : List Slot) (k : ℕ) (places : List ℕ) (o : Option ℕ) → AreDependents slots k places → found_test places o ≡ true → (j : ℕ) × (o ≡ Some j) × IsDependent slots k j
place_from slots k places None are e = absurd cc
place_from slots k places (Some j) are e = (j, refl, are.only j e)

pub dependents_are : (b : Books) (m : Mapping) (k : ℕ) → HasSizes b.sheet.slots → AreOrdered b.tables.mappings → mapping_place b.sheet.slots m.id.0 ≡ Some k → Dependents b m k
unfolding dependents
dependents_are b m k sizes ordered place =
    let slots = b.sheet.slots in
    let places = places_behind slots (mapping_place slots m.id.0) in
    let test : Mapping → Bool = has_slot_among slots places in
    let are : AreDependents slots k places = subst (λ (o : Option ℕ). AreDependents slots k (places_behind slots o)) (sym place) (dependent_places-are slots k sizes) in
    record {
      ordered = record {
        rising = AllPairs-filter (λ (x y : Mapping). x.id.0 < y.id.0) test b.tables.mappings ordered.rising;
        distinct = AllPairs-filter (λ (x y : Mapping). x.name ≢ y.name) test b.tables.mappings ordered.distinct;
      };
      among = λ d found. (filter_from test b.tables.mappings d found).0;
      places = λ d found. place_from slots k places (mapping_place slots d.id.0) are (filter_from test b.tables.mappings d found).1;
      all = λ d j found at dep. filter_in test b.tables.mappings d found (ap (found_test places) at ∙ are.all j dep);
    }

pub dependent_other : (slots : List Slot) (k d : ℕ) → IsDependent slots k d → d ≢ k
dependent_other slots k d (IsDependent.direct r) = r.other
dependent_other slots k d (IsDependent.onward i r) = r.other

pub dependent_live : (slots : List Slot) (k d : ℕ) → IsDependent slots k d → (slot_at slots d).is_live ≡ true
dependent_live slots k d (IsDependent.direct r) = r.is_live
dependent_live slots k d (IsDependent.onward i r) = r.is_live

-- ---- it fits

pub all_held : (held : List Bool) (g : ℕ) → list_all (λ b. b) held ≡ true → g < length held → get_or held g false ≡ true
all_held [] g e lt = absurd (omega (arith, lt))
all_held (true ∷ xs) zero e lt = refl
all_held (true ∷ xs) (suc g) e lt = all_held xs g e (omega (arith, lt))
all_held (false ∷ xs) g e lt = absurd cc

-- a live slot that reads from another one is a mapping's
reader_mapped : (slots : List Slot) (g d h : ℕ) → HasSizes slots → HasMappings slots → d < length slots → (slot_at slots d).is_live ≡ true → IsHolder (column slots g) d h → h ≢ d → (n : ℕ) × ((slot_at slots d).mapping ≡ Some n)
reader_mapped slots g d h sizes maps dl live i ne =
    elim (cases_option (slot_at slots d).mapping) [
      | inl none ↦
          let full = maps.complete d dl live none in
          let before : h ≤ d = i.before in
          let long : g < length (slot_at slots h).held = held_below (slot_at slots h).held g i.holds in
          let same : length (slot_at slots h).held ≡ length (slot_at slots d).held = sizes.of_chain h d (omega arith) dl i.one_chain in
          absurd (ne (one_holder (column slots g) d h d i (own_holder (column slots g) d (all_held (slot_at slots d).held g full (omega arith)))))
      | inr some ↦ some
    ]

pub force_fits : (b : Books) (m : Mapping) (k : ℕ) (pending : ℕ → Type 0) → IsSound b.sheet → Joint b.tables b.sheet.slots pending → Dependents b m k → mapping_place b.sheet.slots m.id.0 ≡ Some k →
    FitsForce b.sheet.slots m.id (map (λ (d : Mapping). d.id) (dependents b m))
force_fits b m k pending sound joint deps place =
    let slots = b.sheet.slots in
    let ids = map (λ (d : Mapping). d.id) (dependents b m) in
    record {
      each = λ n which. elim which [
        | inl same ↦ ap is_some (ap (λ (x : MapId). mapping_place slots x.0) same ∙ place)
        | inr found ↦
            let d = map_from (λ (x : Mapping). x.id) (dependents b m) n found in
            ap is_some (ap (λ (x : MapId). mapping_place slots x.0) (sym d.2) ∙ (deps.places d.0 d.1).1)
      ];
      closed = λ g d h dl live reads of_h.
          elim (cases_eq d k) [
            | inl same ↦ (m.id, inl refl, place ∙ ap Some (sym same))
            | inr other ↦ elim (cases_eq h d) [
              | inl own ↦ subst (λ (z : ℕ). IsSlotOf slots m.id ids z) own of_h
              | inr ne ↦
                  let r : (x : ℕ) → x ≡ h → ReadsAt slots k x d = λ x e. record { grain = g; there = dl; is_live = live; other = other; reads = reads ∙ ap Some (sym e) } in
                  let dep : IsDependent slots k d = elim of_h.1 [
                    | inl e ↦
                        let kh : Some k ≡ Some h = sym place ∙ (ap (λ (x : MapId). mapping_place slots x.0) (sym e) ∙ of_h.2) in
                        let same : k ≡ h = cc in
                        IsDependent.direct (r k same)
                    | inr found ↦
                        let x = map_from (λ (y : Mapping). y.id) (dependents b m) of_h.0 found in
                        let at = deps.places x.0 x.1 in
                        let jh : Some at.0 ≡ Some h = sym at.1 ∙ (ap (λ (y : MapId). mapping_place slots y.0) x.2 ∙ of_h.2) in
                        let same : at.0 ≡ h = cc in
                        IsDependent.onward at.2 (r at.0 same)
                  ] in
                  let n = reader_mapped slots g d h sound.sizes sound.mappings dl live (holder_is (column slots g) d h reads) ne in
                  let at_n : mapping_place slots n.0 ≡ Some d = mapping_place_is slots n.0 d sound.mappings dl n.1 in
                  let o = joint.owned n.0 (seen_slot (slot_at slots d)) (seen_place slots n.0 d at_n) in
                  let at_o : mapping_place slots o.0.id.0 ≡ Some d = ap (mapping_place slots) o.2 ∙ at_n in
                  (o.0.id, inr (map_in (λ (y : Mapping). y.id) (dependents b m) o.0 (deps.all o.0 d o.1 at_o dep)), at_o)
            ]
          ];
    }

-- ---- births

forced_birth : (s : Sheet) (n : MapId) → (forced_map s n).births ≤ s.births + 1
forced_birth s n = by (mapping_place s.slots n.0)
  where
    live_by : (k : ℕ) (live : Bool) → (cond live (detached_at k s) (without k s)).births ≤ s.births + 1
    live_by k true = omega arith
    live_by k false = omega arith

    by : (o : Option ℕ) → (at_place forced_at o s).births ≤ s.births + 1
    by None = omega arith
    by (Some k) = live_by k (slot_at s.slots k).is_live

pub forced_births : (ns : List MapId) (s : Sheet) → (fold forced_map s ns).births ≤ s.births + length ns
forced_births [] s = omega arith
forced_births (n ∷ ns) s = omega (arith, forced_birth s n, forced_births ns (forced_map s n))

-- ---- who is taken out

pub among_from : (ds : List Mapping) (d : Mapping) → Contains ds d → Among (map (λ (x : Mapping). x.id) ds) d.id.0
among_from [] d found = absurd (omega (arith, found.1))
among_from (x ∷ xs) d found =
    elim (in_cases x d xs found) [
      | inl e ↦ inl (ap (λ (y : Mapping). y.id.0) (sym e))
      | inr later ↦ inr (among_from xs d later)
    ]

pub among_to : (ds : List Mapping) (n : ℕ) → Among (map (λ (x : Mapping). x.id) ds) n → (d : Mapping) × Contains ds d × (d.id.0 ≡ n)
among_to [] n a = absurd a
among_to (x ∷ xs) n a =
    elim a [
      | inl e ↦ (x, first_in x xs, sym e)
      | inr later ↦ let r = among_to xs n later in (r.0, later_in x r.0 xs r.1, r.2)
    ]
