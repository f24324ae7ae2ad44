-- What the chains answer of dependents is what the definitions say.
use Rattle.std.proofs.Common.{◌≡◌, ◌∙◌, sym, ap, subst, ℕ, ◌<◌, Bool, true, false, cond, ◌||◌, ◌==◌, List, [], ◌∷◌, map, length, Option, Some, None, Contains, refl, arith}
use Rattle.std.specs.List.{list_any}
use Rattle.std.specs.Option.{ForSome}
use Rattle.std.proofs.lemmas.Bool.{eqb-true, eq-eqb, or_left, or_right}
use Rattle.std.proofs.lemmas.Bool.Decides.{nat_tests}
use Rattle.fc_base.specs.Column.{is_at}
use Rattle.fc_base.specs.Need.{IsDependent, direct, onward}
use Rattle.fc_base.specs.Sheet.{Slot, slot_at, mapping_place}
use Rattle.fc_base.specs.SheetView.{AreMappings, DependsOn}
use Rattle.fc_base.specs.declared.ids.MapId.{MapId}
use Rattle.fc_base.specs.declared.volume.Mapping.{Mapping}
use Rattle.fc_books.specs.Books.{Books}
use Rattle.fc_books.specs.Copies.{dependents}
use Rattle.fc_books.specs.Sound.{AreSound}
pub use Rattle.fc_books.proofs.DependentMaps.{any_in, any_of, same_tests, id_found, id_there, has_slot, slot_has, those_are}
use Rattle.fc_registry.proofs.Places.{IsAbove, Rises, rises}
use Rattle.fc_stops.proofs.StopEnds.{AreKnown}
use Rattle.fc_stops.proofs.StopHeld.{place_at}
use Rattle.fc_stops.specs.Stops.{is_among, those}

-- ---- dependents

pub those_depend : (b : Books) (m : Mapping) (ids : List MapId) → AreSound b → AreMappings (DependsOn b.sheet.slots m.id.0) ids → those ids b.tables.mappings ≡ dependents b m
those_depend b m ids sound are = those_are b m ids sound.sheet.sizes are

-- ---- each of them is a mapping's

at_some : (o : Option ℕ) (n : ℕ) → is_at o n ≡ true → o ≡ Some n
at_some None n e = grind (arith, e)
at_some (Some k) n e = ap Some (eqb-true k n e)

within : (slots : List Slot) (k j : ℕ) → IsDependent slots k j → j < length slots
within slots k j (direct r) = r.there
within slots k j (onward dep r) = r.there

owner : (maps : List Mapping) (n : ℕ) (o : Option ℕ) → o ≡ Some n → ForSome o (λ x. (d : Mapping) × Contains maps d × (d.id.0 ≡ x)) → list_any (λ (d : Mapping). d.id.0 == n) maps ≡ true
owner maps n o is owned =
    let found = owned n is in
    any_in (λ (d : Mapping). d.id.0 == n) maps found.0 found.1 (eq-eqb found.0.id.0 n found.2)

-- the slot at a place is some mapping's
pub place_owned : (b : Books) (n k : ℕ) → AreSound b → mapping_place b.sheet.slots n ≡ Some k → k < length b.sheet.slots → list_any (λ (d : Mapping). d.id.0 == n) b.tables.mappings ≡ true
place_owned b n k sound is lt =
    owner b.tables.mappings n (slot_at b.sheet.slots k).mapping (at_some (slot_at b.sheet.slots k).mapping n (place_at b.sheet.slots n k is)) (sound.agree.owned k lt)

pub dependent_known : (b : Books) (m n : ℕ) → AreSound b → DependsOn b.sheet.slots m n → list_any (λ (d : Mapping). d.id.0 == n) b.tables.mappings ≡ true
dependent_known b m n sound dep = place_owned b n dep.dependent sound dep.dependent_there (within b.sheet.slots dep.on dep.dependent dep.depends)

pub dependents_known : (b : Books) (m : ℕ) (ids : List MapId) → AreSound b → AreMappings (DependsOn b.sheet.slots m) ids → AreKnown ids b.tables.mappings
dependents_known b m ids sound are n there =
    let r = id_found ids n there in
    let P : ℕ → Type 0 = λ z. DependsOn b.sheet.slots m z in
    dependent_known b m n sound (subst P r.2 (are.only r.0 r.1))

-- ---- and they stand in their order

first_above : (k n : ℕ) (b rest : Bool) (x : ℕ) → (x == n) ≡ b → k < x → (rest ≡ true → k < n) → (b || rest) ≡ true → k < n
first_above k n true rest x is lt later e = let same : x ≡ n = eqb-true x n is in omega arith
first_above k n false rest x is lt later e = later e

ids_above : (k n : ℕ) (ids : List MapId) → IsAbove (λ (x : MapId). x.0) k ids → list_any (λ (x : MapId). x.0 == n) ids ≡ true → k < n
ids_above k n [] above e = grind (arith, e)
ids_above k n (x ∷ xs) above e = first_above k n (x.0 == n) (list_any (λ (y : MapId). y.0 == n) xs) x.0 refl above.0 (ids_above k n xs above.1) e

maps_above : (k n : ℕ) (maps : List Mapping) → IsAbove (λ (x : Mapping). x.id.0) k maps → list_any (λ (x : Mapping). x.id.0 == n) maps ≡ true → k < n
maps_above k n [] above e = grind (arith, e)
maps_above k n (x ∷ xs) above e = first_above k n (x.id.0 == n) (list_any (λ (y : Mapping). y.id.0 == n) xs) x.id.0 refl above.0 (maps_above k n xs above.1) e

more_above : (j k : ℕ) (ids : List MapId) → j < k → IsAbove (λ (x : MapId). x.0) k ids → IsAbove (λ (x : MapId). x.0) j ids
more_above j k [] lt above = tt
more_above j k (x ∷ xs) lt above = (let below : k < x.0 = above.0 in omega arith, more_above j k xs lt above.1)

apart_by : (x n : ℕ) → x < n → (x == n) ≡ false
apart_by x n lt = grind (arith, nat_tests)

none_below : (n : ℕ) (ids : List MapId) → IsAbove (λ (x : MapId). x.0) n ids → list_any (λ (x : MapId). x.0 == n) ids ≡ false
none_below n [] above = refl
none_below n (x ∷ xs) above = let lt : n < x.0 = above.0 in let other : (x.0 == n) ≡ false = grind (arith, nat_tests) in rw other (none_below n xs above.1)

rest_same : (i : MapId) (is : List MapId) (maps : List Mapping) → IsAbove (λ (x : Mapping). x.id.0) i.0 maps → those (i ∷ is) maps ≡ those is maps
rest_same i is [] above = refl
rest_same i is (d ∷ ds) above =
    ap (λ b. cond (b || is_among is d) (d ∷ those (i ∷ is) ds) (those (i ∷ is) ds)) (apart_by i.0 d.id.0 above.0)
    ∙ ap (λ rest. cond (is_among is d) (d ∷ rest) rest) (rest_same i is ds above.1)

rest_has : (here rest : Bool) → (here || rest) ≡ true → here ≡ false → rest ≡ true
rest_has true rest e no_here = grind (arith, no_here)
rest_has false rest e no_here = e

known_later : (ids : List MapId) (d : Mapping) (ds : List Mapping) → IsAbove (λ (x : MapId). x.0) d.id.0 ids → ((n : ℕ) → list_any (λ (id : MapId). id.0 == n) ids ≡ true → ((d.id.0 == n) || list_any (λ (x : Mapping). x.id.0 == n) ds) ≡ true) → AreKnown ids ds
known_later ids d ds above known n there =
    rest_has (d.id.0 == n) (list_any (λ (x : Mapping). x.id.0 == n) ds) (known n there) (apart_by d.id.0 n (ids_above d.id.0 n ids above there))

same_id : (i j : MapId) → i.0 ≡ j.0 → i ≡ j
same_id i j e = let f : ℕ → MapId = λ n. record { 0 = n } in ap f e

pub ids_same : (ids : List MapId) (maps : List Mapping) → Rises (λ (x : MapId). x.0) ids → Rises (λ (x : Mapping). x.id.0) maps → AreKnown ids maps → map (λ (d : Mapping). d.id) (those ids maps) ≡ ids
ids_same [] [] up up' known = refl
ids_same (i ∷ is) [] up up' known = grind (arith, known i.0 (or_left (i.0 == i.0) (list_any (λ (x : MapId). x.0 == i.0) is) (eq-eqb i.0 i.0 refl)))
ids_same [] (d ∷ ds) up up' known = ids_same [] ds up up'.1 (λ n there. grind (arith, there))
ids_same (i ∷ is) (d ∷ ds) up up' known =
    by_first (i.0 == d.id.0) refl (ids_same is ds up.1 up'.1) (ids_same (i ∷ is) ds up up'.1)
  where
    by_first : (b : Bool) → (i.0 == d.id.0) ≡ b → (AreKnown is ds → map (λ (x : Mapping). x.id) (those is ds) ≡ is) → (AreKnown (i ∷ is) ds → map (λ (x : Mapping). x.id) (those (i ∷ is) ds) ≡ (i ∷ is)) → map (λ (x : Mapping). x.id) (cond ((i.0 == d.id.0) || is_among is d) (d ∷ those (i ∷ is) ds) (those (i ∷ is) ds)) ≡ (i ∷ is)
    by_first true is_here with_is with_all =
        let same : i.0 ≡ d.id.0 = eqb-true i.0 d.id.0 is_here in
        let above : IsAbove (λ (x : MapId). x.0) d.id.0 is = subst (λ (k : ℕ). IsAbove (λ (x : MapId). x.0) k is) same up.0 in
        let low : IsAbove (λ (x : Mapping). x.id.0) i.0 ds = subst (λ (k : ℕ). IsAbove (λ (x : Mapping). x.id.0) k ds) (sym same) up'.0 in
        ap (λ b. map (λ (x : Mapping). x.id) (cond (b || is_among is d) (d ∷ those (i ∷ is) ds) (those (i ∷ is) ds))) is_here
        ∙ ap (λ rest. d.id ∷ map (λ (x : Mapping). x.id) rest) (rest_same i is ds low)
        ∙ ap (λ rest. d.id ∷ rest) (with_is (known_later is d ds above (λ n there. known n (or_right (i.0 == n) (list_any (λ (x : MapId). x.0 == n) is) there))))
        ∙ ap (λ z. z ∷ is) (same_id d.id i (sym same))
    by_first false is_here with_is with_all =
        let first = known i.0 (or_left (i.0 == i.0) (list_any (λ (x : MapId). x.0 == i.0) is) (eq-eqb i.0 i.0 refl)) in
        let other : (d.id.0 == i.0) ≡ false = turned d.id.0 i.0 is_here in
        let lt : d.id.0 < i.0 = maps_above d.id.0 i.0 ds up'.0 (rest_has (d.id.0 == i.0) (list_any (λ (x : Mapping). x.id.0 == i.0) ds) first other) in
        let above : IsAbove (λ (x : MapId). x.0) d.id.0 is = more_above d.id.0 i.0 is lt up.0 in
        ap (λ b. map (λ (x : Mapping). x.id) (cond (b || is_among is d) (d ∷ those (i ∷ is) ds) (those (i ∷ is) ds))) is_here
        ∙ ap (λ b. map (λ (x : Mapping). x.id) (cond b (d ∷ those (i ∷ is) ds) (those (i ∷ is) ds))) (none_below d.id.0 is above)
        ∙ with_all (known_later (i ∷ is) d ds (lt, above) known)
      where
        turned : (x y : ℕ) → (y == x) ≡ false → (x == y) ≡ false
        turned x y e = grind (arith, nat_tests)

-- The ids are the dependents'.
pub ids_depend : (b : Books) (m : Mapping) (ids : List MapId) → AreSound b → AreMappings (DependsOn b.sheet.slots m.id.0) ids → map (λ (d : Mapping). d.id) (dependents b m) ≡ ids
ids_depend b m ids sound are =
    ap (map (λ (d : Mapping). d.id)) (sym (those_depend b m ids sound are))
    ∙ ids_same ids b.tables.mappings (rises (λ (x : MapId). x.0) ids are.rising) (rises (λ (x : Mapping). x.id.0) b.tables.mappings sound.tables.mappings.rising) (dependents_known b m.id.0 ids sound are)
