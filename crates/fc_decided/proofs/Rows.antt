-- The table of mappings after one of its rows was set or removed.
use Rattle.std.proofs.Common.{◌≡◌, ◌≢◌, ℕ, ◌<◌, ◌≤◌, Bool, false, cond, not, ◌==◌, if◌then◌else◌, Some, List, [], ◌∷◌, length, map, refl, sym, ap, subst, ◌∙◌, arith, Contains, ◌⊎◌, inl, inr, get_or}
use Rattle.std.specs.List.{filter, find, count_by}
use Rattle.std.proofs.lemmas.Bool.{cases_eq, both_ways, eq-eqb, ne_eqb, eqb-true, not-true, not_from_false}
use Rattle.std.proofs.lemmas.List.{get_or-map, length-map}
use Rattle.std.proofs.lemmas.List.Elements.{Contains-get_or}
use Rattle.std.proofs.lemmas.List.Kept.{AllPairs-filter}
use Rattle.std.proofs.lemmas.List.Sums.{length-filter, count_by-le-length}
use Rattle.fc_base.specs.declared.ids.MapId.{MapId}
use Rattle.fc_base.specs.declared.volume.Mapping.{Mapping}
use Rattle.fc_decided.proofs.Setting.{AreOrdered, one_mapping}
use Rattle.fc_decided.proofs.Lists.{first_in, later_in, filter_from, filter_in, map_from, map_in, find_one}

-- ---- rows by id

pub row_found : (maps : List Mapping) (m : Mapping) (id : MapId) → AreOrdered maps → Contains maps m → id.0 ≡ m.id.0 → find (λ (x : Mapping). id.0 == x.id.0) maps ≡ Some m
row_found maps m id ordered found e =
    find_one (λ (x : Mapping). id.0 == x.id.0) maps m found (eq-eqb id.0 m.id.0 e)
    (λ y fy q. one_mapping maps y m ordered fy found (sym (eqb-true id.0 y.id.0 q) ∙ e))

-- ---- a row is set

abbrev pub set_row : Mapping → Mapping → Mapping
set_row r m = if r.id.0 == m.id.0 then r else m

abbrev pub set_rows : Mapping → List Mapping → List Mapping
set_rows r maps = map (λ m. if r.id.0 == m.id.0 then r else m) maps

pub set_here : (r m : Mapping) → r.id.0 ≡ m.id.0 → set_row r m ≡ r
set_here r m e = ap (λ b. if b then r else m) (eq-eqb r.id.0 m.id.0 e)

pub set_there : (r m : Mapping) → r.id.0 ≢ m.id.0 → set_row r m ≡ m
set_there r m ne = ap (λ b. if b then r else m) (ne_eqb r.id.0 m.id.0 ne)

set_id : (r m : Mapping) → (set_row r m).id.0 ≡ m.id.0
set_id r m =
    elim (cases_eq r.id.0 m.id.0) [
      | inl e ↦ ap (λ (x : Mapping). x.id.0) (set_here r m e) ∙ e
      | inr ne ↦ ap (λ (x : Mapping). x.id.0) (set_there r m ne)
    ]

set_name : (r old m : Mapping) (maps : List Mapping) → AreOrdered maps → Contains maps old → Contains maps m → r.id.0 ≡ old.id.0 → r.name ≡ old.name → (set_row r m).name ≡ m.name
set_name r old m maps ordered co cm id name =
    elim (cases_eq r.id.0 m.id.0) [
      | inl e ↦ ap (λ (x : Mapping). x.name) (set_here r m e) ∙ name ∙ ap (λ (x : Mapping). x.name) (one_mapping maps old m ordered co cm (sym id ∙ e))
      | inr ne ↦ ap (λ (x : Mapping). x.name) (set_there r m ne)
    ]

at_set : (r d : Mapping) (maps : List Mapping) (i : ℕ) → i < length maps → get_or (set_rows r maps) i d ≡ set_row r (get_or maps i d)
at_set r d maps i lt = get_or-map (set_row r) maps i d d lt

pub set_ordered : (r old : Mapping) (maps : List Mapping) → AreOrdered maps → Contains maps old → r.id.0 ≡ old.id.0 → r.name ≡ old.name → AreOrdered (set_rows r maps)
set_ordered r old maps ordered found id name =
    let count : length (set_rows r maps) ≡ length maps = length-map maps (set_row r) in
    record {
      rising = λ i j d ij jl.
          let a : (get_or (set_rows r maps) i d).id.0 ≡ (get_or maps i d).id.0 = ap (λ (x : Mapping). x.id.0) (at_set r d maps i (omega arith)) ∙ set_id r (get_or maps i d) in
          let b : (get_or (set_rows r maps) j d).id.0 ≡ (get_or maps j d).id.0 = ap (λ (x : Mapping). x.id.0) (at_set r d maps j (omega arith)) ∙ set_id r (get_or maps j d) in
          let lt : (get_or maps i d).id.0 < (get_or maps j d).id.0 = ordered.rising i j d ij (omega arith) in
          omega arith;
      distinct = λ i j d ij jl e.
          let ci = Contains-get_or maps i d (omega arith) in
          let cj = Contains-get_or maps j d (omega arith) in
          let a = ap (λ (x : Mapping). x.name) (at_set r d maps i (omega arith)) ∙ set_name r old (get_or maps i d) maps ordered found ci id name in
          let b = ap (λ (x : Mapping). x.name) (at_set r d maps j (omega arith)) ∙ set_name r old (get_or maps j d) maps ordered found cj id name in
          ordered.distinct i j d ij (omega arith) (sym a ∙ (e ∙ b));
    }

-- a row of the table is the one that was set, or was there
pub set_from : (r y : Mapping) (maps : List Mapping) → Contains (set_rows r maps) y → (y ≡ r) ⊎ (Contains maps y × (y.id.0 ≢ r.id.0))
set_from r y maps c =
    let x = map_from (set_row r) maps y c in
    elim (cases_eq r.id.0 x.0.id.0) [
      | inl e ↦ inl (sym x.2 ∙ set_here r x.0 e)
      | inr ne ↦ let same : x.0 ≡ y = sym (set_there r x.0 ne) ∙ x.2 in
          inr (subst (λ (z : Mapping). Contains maps z) same x.1, λ e. ne (sym e ∙ ap (λ (z : Mapping). z.id.0) (sym same)))
    ]

pub set_in : (r old : Mapping) (maps : List Mapping) → Contains maps old → r.id.0 ≡ old.id.0 → Contains (set_rows r maps) r
set_in r old maps found id = subst (λ (z : Mapping). Contains (set_rows r maps) z) (set_here r old id) (map_in (set_row r) maps old found)

pub set_others : (r m : Mapping) (maps : List Mapping) → Contains maps m → m.id.0 ≢ r.id.0 → Contains (set_rows r maps) m
set_others r m maps found ne = subst (λ (z : Mapping). Contains (set_rows r maps) z) (set_there r m (λ e. ne (sym e))) (map_in (set_row r) maps m found)

-- ---- a row is removed

abbrev pub drop_rows : MapId → List Mapping → List Mapping
drop_rows id maps = filter (λ m. not (id.0 == m.id.0)) maps

pub drop_ordered : (id : MapId) (maps : List Mapping) → AreOrdered maps → AreOrdered (drop_rows id maps)
drop_ordered id maps ordered =
    record {
      rising = AllPairs-filter (λ (x y : Mapping). x.id.0 < y.id.0) (λ (m : Mapping). not (id.0 == m.id.0)) maps ordered.rising;
      distinct = AllPairs-filter (λ (x y : Mapping). x.name ≢ y.name) (λ (m : Mapping). not (id.0 == m.id.0)) maps ordered.distinct;
    }

pub drop_from : (id : MapId) (y : Mapping) (maps : List Mapping) → Contains (drop_rows id maps) y → Contains maps y × (y.id.0 ≢ id.0)
drop_from id y maps c =
    let f = filter_from (λ (m : Mapping). not (id.0 == m.id.0)) maps y c in
    (f.0, λ e. both_ways (id.0 == y.id.0) (not-true (id.0 == y.id.0) f.1) (eq-eqb id.0 y.id.0 (sym e)))

pub drop_others : (id : MapId) (m : Mapping) (maps : List Mapping) → Contains maps m → m.id.0 ≢ id.0 → Contains (drop_rows id maps) m
drop_others id m maps found ne =
    filter_in (λ (x : Mapping). not (id.0 == x.id.0)) maps m found (not_from_false (id.0 == m.id.0) (ne_eqb id.0 m.id.0 (λ e. ne (sym e))))

pub drop_count : (id : MapId) (maps : List Mapping) → length (drop_rows id maps) ≤ length maps
drop_count id maps =
    let a : length (drop_rows id maps) ≡ count_by (λ (m : Mapping). not (id.0 == m.id.0)) maps = length-filter (λ (m : Mapping). not (id.0 == m.id.0)) maps in
    let b : count_by (λ (m : Mapping). not (id.0 == m.id.0)) maps ≤ length maps = count_by-le-length (λ (m : Mapping). not (id.0 == m.id.0)) maps in
    omega arith

-- ---- searched

-- what isn't searched for may be set or removed
pub find_set : (p : Mapping → Bool) (r : Mapping) (maps : List Mapping) → p r ≡ false → ((m : Mapping) → Contains maps m → m.id.0 ≡ r.id.0 → p m ≡ false) → find p (set_rows r maps) ≡ find p maps
find_set p r [] none others = refl
find_set p r (m ∷ ms) none others =
    let rest : find p (set_rows r ms) ≡ find p ms = find_set p r ms none (λ x c e. others x (later_in m x ms c) e) in
    elim (cases_eq r.id.0 m.id.0) [
      | inl e ↦
          let off : p m ≡ false = others m (first_in m ms) (sym e) in
          ap (λ z. cond (p z) (Some z) (find p (set_rows r ms))) (set_here r m e)
          ∙ ap (λ b. cond b (Some r) (find p (set_rows r ms))) none
          ∙ rest
          ∙ sym (ap (λ b. cond b (Some m) (find p ms)) off)
      | inr ne ↦
          ap (λ z. cond (p z) (Some z) (find p (set_rows r ms))) (set_there r m ne)
          ∙ ap (λ z. cond (p m) (Some m) z) rest
    ]

pub find_drop : (p : Mapping → Bool) (id : MapId) (maps : List Mapping) → ((m : Mapping) → Contains maps m → m.id.0 ≡ id.0 → p m ≡ false) → find p (drop_rows id maps) ≡ find p maps
find_drop p id [] others = refl
find_drop p id (m ∷ ms) others =
    let rest : find p (drop_rows id ms) ≡ find p ms = find_drop p id ms (λ x c e. others x (later_in m x ms c) e) in
    elim (cases_eq id.0 m.id.0) [
      | inl e ↦
          let off : p m ≡ false = others m (first_in m ms) (sym e) in
          ap (λ b. find p (cond (not b) (m ∷ drop_rows id ms) (drop_rows id ms))) (eq-eqb id.0 m.id.0 e)
          ∙ rest
          ∙ sym (ap (λ b. cond b (Some m) (find p ms)) off)
      | inr ne ↦
          ap (λ b. find p (cond (not b) (m ∷ drop_rows id ms) (drop_rows id ms))) (ne_eqb id.0 m.id.0 ne)
          ∙ ap (λ z. cond (p m) (Some m) z) rest
    ]
