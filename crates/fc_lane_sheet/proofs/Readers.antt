-- The mappings that read from a mapping's slot, told by the lanes.
use Rattle.std.proofs.Common.{◌≡◌, ℕ, zero, suc, ◌<◌, Bool, true, false, cond, ◌||◌, Option, Some, None, List, [], ◌∷◌, length, map, get_or, refl, sym, ap, ap₂, subst, ◌∙◌, arith}
use Rattle.std.specs.Prelude.{◌↔◌, ◌==◌, slice_index_or, flat_map, filter, AllPairs, Contains, IsSome, Result, Ok, Err, IfOk}
use Rattle.std.specs.List.{list_any}
use Rattle.std.proofs.lemmas.Bool.{both_ways}
use Rattle.std.proofs.lemmas.List.{get_or-map}
use Rattle.std.proofs.lemmas.List.Elements.{filter_agree}
use Rattle.std.proofs.lemmas.List.Folds.{list_any-append, flat_map-map}
use Rattle.std.proofs.lemmas.List.Kept.{AllPairs-filter}
use Rattle.fc_base.specs.Counts.{names_below, any_below, is_direct}
use Rattle.fc_base.specs.Sheet.{Slot, Sheet, slot_at, slot_id, birth_place, mapping_place}
use Rattle.fc_base.specs.SheetView.{IsRisingIds, AreMappings, ReadsMapping}
use Rattle.fc_base.specs.declared.ids.MapId.{MapId}
use Rattle.fc_base.specs.declared.ids.SlotId.{SlotId}
use Rattle.fc_base.specs.declared.outcome.NoMemory.{NoMemory}
use Rattle.fc_base.specs.declared.size.GrainSize.{GrainSize}
use Rattle.fc_base.specs.declared.volume.Mapping.{Mapping}
use Rattle.fc_chain.specs.Chains.{IsThere, found}
use Rattle.fc_lane.specs.Lane.{LaneView}
use Rattle.fc_parts.proofs.Views.{count_parts}
use Rattle.fc_sheets.proofs.Finding.{mapping_place_at}
use Rattle.fc_sums.specs.Law.{SlotsLaw}
use Rattle.fc_sums.specs.Parts.{lane_of, part_of, has_name}
use Rattle.fc_sums.proofs.Lawful.{sum_law_holds}
use Rattle.fc_sums.proofs.Reading.{any_listed}
use Rattle.fc_sums.proofs.Unneeded.{name_at, names_same}
use Rattle.fc_lane_sheet.specs.LaneSheet.{chains_of, sheet_of, HaveSheet, direct_at, direct_of, readers_in, is_slot_among, is_owner_among, AreListed}
use Rattle.fc_lane_sheet.proofs.LaneSheets.{lane_part}

-- ---- names in lanes

has_flat : {X : Type 0} → (f : X → List SlotId) (xs : List X) (name : SlotId) → has_name (flat_map f xs) name ≡ list_any (λ x. has_name (f x) name) xs
has_flat f [] name = refl
has_flat f (x ∷ xs) name =
    list_any-append (λ (n : SlotId). n.0 == name.0) (f x) (flat_map f xs)
    ∙ ap (λ b. has_name (f x) name || b) (has_flat f xs name)

any_same : (test other : ℕ → Bool) (n : ℕ) → ((i : ℕ) → i < n → test i ≡ other i) → any_below test n ≡ any_below other n
any_same test other zero e = refl
any_same test other (suc n) e = ap₂ (λ a b. a || b) (any_same test other n (λ i lt. e i (omega arith))) (e n (omega arith))

-- in one lane
direct_in_part : (grain : GrainSize) (lanes i : ℕ) (s : Sheet) → ((a b : ℕ) → a < length s.slots → b < length s.slots → (slot_at s.slots a).birth ≡ (slot_at s.slots b).birth → a ≡ b) → i < lanes →
    (name : SlotId) (k r : ℕ) → birth_place s.slots name.0 ≡ Some k → r < length s.slots →
    has_name (direct_of name (part_of grain lanes s i)) (slot_id s.slots r) ≡ is_direct (part_of grain lanes s i).slots k r
direct_in_part grain lanes i s apart lt name k r at below =
    let p : Sheet = part_of grain lanes s i in
    let law : SlotsLaw s p = sum_law_holds.slots grain lanes i s lt in
    ap (λ o. has_name (direct_at p.slots o) (slot_id s.slots r)) (law.names name.0 ∙ at)
    ∙ (ap (λ n. has_name (names_below p.slots (is_direct p.slots k) n) (slot_id s.slots r)) (count_parts (lane_of grain lanes i) s.slots)
    ∙ (ap (λ names. has_name names (slot_id s.slots r)) (names_same p.slots s.slots (is_direct p.slots k) (is_direct p.slots k) (length s.slots) law.name (λ j. refl))
    ∙ name_at s.slots apart (is_direct p.slots k) (length s.slots) r (omega arith) below))

-- in all
named_reader : (lanes : List LaneView) → HaveSheet lanes → (name : SlotId) (k r : ℕ) → birth_place (sheet_of lanes).slots name.0 ≡ Some k → r < length (sheet_of lanes).slots →
    has_name (readers_in lanes name) (slot_id (sheet_of lanes).slots r) ≡ is_direct (sheet_of lanes).slots k r
named_reader lanes h name k r at below =
    let s : Sheet = sheet_of lanes in
    let n : ℕ = length lanes in
    let x : SlotId = slot_id s.slots r in
    ap (λ names. has_name names x) (sym (flat_map-map (direct_of name) (λ (v : LaneView). v.chains.sheet) lanes))
    ∙ (has_flat (direct_of name) (chains_of lanes) x
    ∙ (ap (list_any (λ (p : Sheet). has_name (direct_of name p) x)) h.parts
    ∙ (any_listed (λ (p : Sheet). has_name (direct_of name p) x) (part_of h.grain n s) n
    ∙ (any_same (λ i. has_name (direct_of name (part_of h.grain n s i)) x) (λ i. is_direct (part_of h.grain n s i).slots k r) n
    (λ i lt. direct_in_part h.grain n i s h.sound.names.apart lt name k r at below)
    ∙ (sym (any_listed (λ (p : Sheet). is_direct p.slots k r) (part_of h.grain n s) n)
    ∙ sym ((sum_law_holds.reads h.grain n s h.some).direct k r))))))

-- ---- the owners of those slots

owner_by : (lanes : List LaneView) → HaveSheet lanes → (name : SlotId) (m n k : ℕ) → birth_place (sheet_of lanes).slots name.0 ≡ Some k → mapping_place (sheet_of lanes).slots m ≡ Some k →
    (o : Option ℕ) → mapping_place (sheet_of lanes).slots n ≡ o →
    (is_slot_among (readers_in lanes name) (found (sheet_of lanes).slots o) ≡ true) ↔ ReadsMapping (sheet_of lanes).slots m n
owner_by lanes h name m n k at from None e = (λ t. absurd (both_ways false refl t), λ r. absurd (let q : Some r.reader ≡ None = sym r.reader_there ∙ e in cc))
owner_by lanes h name m n k at from (Some r) e =
    let s : Sheet = sheet_of lanes in
    let same = named_reader lanes h name k r at (mapping_place_at s.slots n r e).0 in
    let iff = (sum_law_holds.depends h.grain (length lanes) s h.some h.sound.sizes h.sound.mappings).direct m n k r from e in
    (λ t. iff.0 (sym same ∙ t), λ reads. same ∙ iff.1 reads)

pub owner_reads : (lanes : List LaneView) → HaveSheet lanes → (name : SlotId) (m n k : ℕ) → birth_place (sheet_of lanes).slots name.0 ≡ Some k → mapping_place (sheet_of lanes).slots m ≡ Some k →
    (is_owner_among (readers_in lanes name) (sheet_of lanes) n ≡ true) ↔ ReadsMapping (sheet_of lanes).slots m n
owner_reads lanes h name m n k at from = owner_by lanes h name m n k at from (mapping_place (sheet_of lanes).slots n) refl

-- ---- lists of mappings

abbrev pub chosen : (ℕ → Bool) → List Mapping → List MapId
chosen test mappings = map (λ (m : Mapping). m.id) (filter (λ (m : Mapping). test m.id.0) mappings)

pub rising_ids : (ms : List Mapping) → AllPairs (λ (a b : Mapping). a.id.0 < b.id.0) ms → IsRisingIds (map (λ (m : Mapping). m.id) ms)
rising_ids [] rising i j d lt le = absurd (omega arith)
rising_ids (m ∷ ms) rising i j d lt le =
    let count : length (map (λ (x : Mapping). x.id) (m ∷ ms)) ≡ length (m ∷ ms) = counted (m ∷ ms) in
    let at_i = get_or-map (λ (x : Mapping). x.id) (m ∷ ms) i m d (omega arith) in
    let at_j = get_or-map (λ (x : Mapping). x.id) (m ∷ ms) j m d (omega arith) in
    let below : (get_or (m ∷ ms) i m).id.0 < (get_or (m ∷ ms) j m).id.0 = rising i j m lt (omega arith) in
    let P : MapId → Type 0 = λ x. x.0 < (get_or (map (λ (y : Mapping). y.id) (m ∷ ms)) j d).0 in
    let Q : MapId → Type 0 = λ y. (get_or (m ∷ ms) i m).id.0 < y.0 in
    subst P (sym at_i) (subst Q (sym at_j) below)
  where
    counted : (xs : List Mapping) → length (map (λ (x : Mapping). x.id) xs) ≡ length xs
    counted [] = refl
    counted (x ∷ xs) = ap suc (counted xs)

-- of a list with one more at its front
here : {X : Type 0} → (x : X) (xs : List X) → Contains (x ∷ xs) x
here x xs = (0, omega arith, refl)

behind : {X : Type 0} → (x y : X) (xs : List X) → Contains xs y → Contains (x ∷ xs) y
behind x y xs c = (suc c.0, (let lt = c.1 in omega arith), c.2)

chosen_step : (b : Bool) (x : Mapping) (xs : List Mapping) (y : MapId) → Contains (map (λ (m : Mapping). m.id) xs) y → Contains (map (λ (m : Mapping). m.id) (cond b (x ∷ xs) xs)) y
chosen_step true x xs y c = behind x.id y (map (λ (m : Mapping). m.id) xs) c
chosen_step false x xs y c = c

chosen_here : (b : Bool) (x : Mapping) (xs : List Mapping) → b ≡ true → Contains (map (λ (m : Mapping). m.id) (cond b (x ∷ xs) xs)) x.id
chosen_here true x xs e = here x.id (map (λ (m : Mapping). m.id) xs)
chosen_here false x xs e = absurd cc

pub is_chosen : (test : ℕ → Bool) (ms : List Mapping) (place : ℕ) (x : Mapping) → place < length ms → slice_index_or ms place x ≡ x → test x.id.0 ≡ true → Contains (chosen test ms) x.id
is_chosen test [] place x lt e t = absurd (omega arith)
is_chosen test (m ∷ ms) zero x lt e t =
    let P : Mapping → Type 0 = λ z. Contains (chosen test (m ∷ ms)) z.id in
    subst P e (chosen_here (test m.id.0) m (filter (λ (z : Mapping). test z.id.0) ms) (ap (λ (z : Mapping). test z.id.0) e ∙ t))
is_chosen test (m ∷ ms) (suc place) x lt e t =
    chosen_step (test m.id.0) m (filter (λ (z : Mapping). test z.id.0) ms) x.id (is_chosen test ms place x (omega arith) e t)

front_or : (x y : MapId) (xs : List MapId) (P : MapId → Type 0) → P x → (Contains xs y → P y) → Contains (x ∷ xs) y → P y
front_or x y xs P first rest (zero, lt, e) = subst P e first
front_or x y xs P first rest (suc k, lt, e) = rest (k, (omega arith), e)

pub chosen_only : (test : ℕ → Bool) (ms : List Mapping) (y : MapId) → Contains (chosen test ms) y → test y.0 ≡ true
chosen_only test [] y c = absurd (let lt = c.1 in omega arith)
chosen_only test (m ∷ ms) y c = by (test m.id.0) refl (chosen_only test ms y) c
  where
    by : (b : Bool) → test m.id.0 ≡ b → (Contains (chosen test ms) y → test y.0 ≡ true) → Contains (map (λ (z : Mapping). z.id) (cond b (m ∷ filter (λ (z : Mapping). test z.id.0) ms) (filter (λ (z : Mapping). test z.id.0) ms))) y → test y.0 ≡ true
    by true e rest has = front_or m.id y (chosen test ms) (λ z. test z.0 ≡ true) e rest has
    by false e rest has = rest has

-- the mappings whose slots are among the readers of a mapping's slot
pub direct_mappings : (lanes : List LaneView) → HaveSheet lanes → (mappings : List Mapping) → AreListed (sheet_of lanes) mappings → (name : SlotId) (m k : ℕ) →
    birth_place (sheet_of lanes).slots name.0 ≡ Some k → mapping_place (sheet_of lanes).slots m ≡ Some k →
    AreMappings (ReadsMapping (sheet_of lanes).slots m) (chosen (is_owner_among (readers_in lanes name) (sheet_of lanes)) mappings)
direct_mappings lanes h mappings listed name m k at from =
    let s : Sheet = sheet_of lanes in
    let test : ℕ → Bool = is_owner_among (readers_in lanes name) s in
    record {
      rising = rising_ids (filter (λ (x : Mapping). test x.id.0) mappings) (AllPairs-filter (λ (a b : Mapping). a.id.0 < b.id.0) (λ (x : Mapping). test x.id.0) mappings listed.rising);
      only = λ n has. (owner_reads lanes h name m n.0 k at from).0 (chosen_only test mappings n has);
      all = λ n reads. (
          let there = mapping_place_at s.slots n.0 reads.reader reads.reader_there in
          let f = listed.owned reads.reader n.0 there.0 there.1 in
          let e : f.0.id ≡ n = ap (λ z. let x : MapId = record { 0 = z } in x) f.2 in
          let P : MapId → Type 0 = λ z. Contains (chosen test mappings) z in
          subst P e (is_chosen test mappings f.1.0 f.0 f.1.1 f.1.2 (ap (λ (z : MapId). test z.0) e ∙ (owner_reads lanes h name m n.0 k at from).1 reads))
          );
    }

pub no_mappings : (s : Sheet) (m : ℕ) → mapping_place s.slots m ≡ None → AreMappings (ReadsMapping s.slots m) []
no_mappings s m e = record {
  rising = λ i j d lt le. absurd (omega arith);
  only = λ n has. absurd (let lt = has.1 in omega arith);
  all = λ n reads. absurd (let q : Some reads.from ≡ None = sym reads.from_there ∙ e in cc);
}

-- ---- as they are reached

pub there_in_lanes : (lanes : List LaneView) → HaveSheet lanes → (name : SlotId) (k : ℕ) → birth_place (sheet_of lanes).slots name.0 ≡ Some k → (i : ℕ) (d : LaneView) → i < length lanes →
    IsThere (slice_index_or lanes i d).chains.sheet.slots name
there_in_lanes lanes h name k at i d lt =
    let law : SlotsLaw (sheet_of lanes) (part_of h.grain (length lanes) (sheet_of lanes) i) = sum_law_holds.slots h.grain (length lanes) i (sheet_of lanes) lt in
    let e : birth_place (slice_index_or lanes i d).chains.sheet.slots name.0 ≡ Some k =
    ap (λ (z : Sheet). birth_place z.slots name.0) (lane_part lanes h i d lt) ∙ (law.names name.0 ∙ at) in
    let P : Option ℕ → Type 0 = λ o. IsSome o in
    subst P (sym e) cc

-- the slot of a mapping, told by the first lane
some_place : (slots : List Slot) (o : Option ℕ) (name : SlotId) → found slots o ≡ Some name → (k : ℕ) × (o ≡ Some k)
some_place slots (Some k) name e = (k, refl)
some_place slots None name e = absurd cc

-- the mapping's slot has this place in all
pub record HasPlace (s : Sheet) (name : SlotId) (m : ℕ) : Type 0 where
  pub place : ℕ
  pub named : birth_place s.slots name.0 ≡ Some place
  pub owned : mapping_place s.slots m ≡ Some place

pub place_of_first : (lanes : List LaneView) → (h : HaveSheet lanes) → (s : Sheet) → s ≡ part_of h.grain (length lanes) (sheet_of lanes) 0 → (name : SlotId) (m : ℕ) →
    found s.slots (mapping_place s.slots m) ≡ Some name → birth_place s.slots name.0 ≡ mapping_place s.slots m → HasPlace (sheet_of lanes) name m
place_of_first lanes h s e name m is named =
    let law = sum_law_holds.slots h.grain (length lanes) 0 (sheet_of lanes) h.some in
    let f = some_place s.slots (mapping_place s.slots m) name is in
    record {
      place = f.0;
      named = sym (ap (λ (z : Sheet). birth_place z.slots name.0) e ∙ law.names name.0) ∙ (named ∙ f.1);
      owned = sym (ap (λ (z : Sheet). mapping_place z.slots m) e ∙ law.mappings m) ∙ f.1;
    }

pub no_place_of_first : (lanes : List LaneView) → (h : HaveSheet lanes) → (s : Sheet) → s ≡ part_of h.grain (length lanes) (sheet_of lanes) 0 → (m : ℕ) →
    found s.slots (mapping_place s.slots m) ≡ None → mapping_place (sheet_of lanes).slots m ≡ None
no_place_of_first lanes h s e m is =
    let law = sum_law_holds.slots h.grain (length lanes) 0 (sheet_of lanes) h.some in
    sym (ap (λ (z : Sheet). mapping_place z.slots m) e ∙ law.mappings m) ∙ by (mapping_place s.slots m) is
  where
    by : (o : Option ℕ) → found s.slots o ≡ None → o ≡ None
    by None q = refl
    by (Some k) q = absurd cc

same_owner : (names : List SlotId) (slots others : List Slot) → ((k : ℕ) → slot_id slots k ≡ slot_id others k) → (o : Option ℕ) → is_slot_among names (found slots o) ≡ is_slot_among names (found others o)
same_owner names slots others e None = refl
same_owner names slots others e (Some k) = ap (has_name names) (e k)

owner_of_first : (lanes : List LaneView) → (h : HaveSheet lanes) → (s : Sheet) → s ≡ part_of h.grain (length lanes) (sheet_of lanes) 0 → (names : List SlotId) (n : ℕ) → is_owner_among names s n ≡ is_owner_among names (sheet_of lanes) n
owner_of_first lanes h s e names n =
    let law = sum_law_holds.slots h.grain (length lanes) 0 (sheet_of lanes) h.some in
    let p : Sheet = part_of h.grain (length lanes) (sheet_of lanes) 0 in
    ap (λ (z : Sheet). is_owner_among names z n) e
    ∙ (ap (λ o. is_slot_among names (found p.slots o)) (law.mappings n)
    ∙ same_owner names p.slots (sheet_of lanes).slots law.name (mapping_place (sheet_of lanes).slots n))

pub direct_answer : (lanes : List LaneView) → (h : HaveSheet lanes) → (mappings : List Mapping) → AreListed (sheet_of lanes) mappings → (s : Sheet) → s ≡ part_of h.grain (length lanes) (sheet_of lanes) 0 →
    (name : SlotId) (m : ℕ) → HasPlace (sheet_of lanes) name m → (names : List SlotId) → names ≡ readers_in lanes name → (r : Result (List MapId) NoMemory) →
    IfOk r (λ maps. maps ≡ chosen (is_owner_among names s) mappings) → IfOk r (λ maps. AreMappings (ReadsMapping (sheet_of lanes).slots m) maps)
direct_answer lanes h mappings listed s e name m place names are (Ok maps) q =
    let P : List MapId → Type 0 = λ z. AreMappings (ReadsMapping (sheet_of lanes).slots m) z in
    let same : chosen (is_owner_among names s) mappings ≡ chosen (is_owner_among (readers_in lanes name) (sheet_of lanes)) mappings =
    ap (map (λ (x : Mapping). x.id)) (filter_agree (λ (x : Mapping). is_owner_among names s x.id.0) (λ (x : Mapping). is_owner_among (readers_in lanes name) (sheet_of lanes) x.id.0)
    (λ x. owner_of_first lanes h s e names x.id.0 ∙ ap (λ z. is_owner_among z (sheet_of lanes) x.id.0) are) mappings) in
    subst P (sym (q ∙ same)) (direct_mappings lanes h mappings listed name m place.place place.named place.owned)
direct_answer lanes h mappings listed s e name m place names are (Err error) q = q
