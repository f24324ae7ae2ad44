-- The mappings that the chains answer as dependents are those of the definitions.
use Rattle.std.proofs.Common.{◌≡◌, ◌∙◌, sym, ap, subst, ℕ, zero, suc, Bool, true, false, cond, ◌||◌, ◌==◌, List, [], ◌∷◌, Option, Some, None, Contains, refl, arith}
use Rattle.std.specs.List.{list_any, filter}
use Rattle.std.specs.Option.{option_map_or}
use Rattle.std.proofs.lemmas.Bool.{eqb-true, eq-eqb, or_left, or_right}
use Rattle.fc_base.specs.Sheet.{Slot, mapping_place}
use Rattle.fc_base.specs.SheetFacts.{HasSizes}
use Rattle.fc_base.specs.SheetView.{AreMappings, DependsOn}
use Rattle.fc_base.specs.declared.ids.MapId.{MapId}
use Rattle.fc_base.specs.declared.volume.Mapping.{Mapping}
use Rattle.fc_books.specs.Books.{Books}
use Rattle.fc_books.specs.Copies.{places_behind, has_slot_among, dependents}
use Rattle.fc_books.proofs.Depending.{dependent_places-are}

-- ---- what some element of a list passes

pub any_in : {X : Type 0} (test : X → Bool) (xs : List X) (x : X) → Contains xs x → test x ≡ true → list_any test xs ≡ true
any_in test [] x (k, lt, e) is = absurd (omega arith)
any_in test (y ∷ ys) x (zero, lt, e) is = or_left (test y) (list_any test ys) (ap test e ∙ is)
any_in test (y ∷ ys) x (suc k, lt, e) is = or_right (test y) (list_any test ys) (any_in test ys x (k, omega arith, e) is)

first_or : {X : Type 0} (test : X → Bool) (y : X) (ys : List X) (b : Bool) → test y ≡ b → (list_any test ys ≡ true → (x : X) × Contains ys x × (test x ≡ true)) → (b || list_any test ys) ≡ true → (x : X) × Contains (y ∷ ys) x × (test x ≡ true)
first_or test y ys true is rest e = (y, (zero, omega arith, refl), is)
first_or test y ys false is rest e = let r = rest e in (r.0, (suc r.1.0, omega (arith, r.1.1), r.1.2), r.2)

pub any_of : {X : Type 0} (test : X → Bool) (xs : List X) → list_any test xs ≡ true → (x : X) × Contains xs x × (test x ≡ true)
any_of test [] e = grind (arith, e)
any_of test (y ∷ ys) e = first_or test y ys (test y) refl (any_of test ys) e

pub same_tests : (b c : Bool) → (b ≡ true → c ≡ true) → (c ≡ true → b ≡ true) → b ≡ c
same_tests true c there back = sym (there refl)
same_tests false true there back = back refl
same_tests false false there back = refl

pub filter_by : {X : Type 0} (p q : X → Bool) (xs : List X) → ((x : X) → p x ≡ q x) → filter p xs ≡ filter q xs
filter_by p q [] same = refl
filter_by p q (x ∷ xs) same = ap (λ b. cond b (x ∷ filter p xs) (filter p xs)) (same x) ∙ ap (λ rest. cond (q x) (x ∷ rest) rest) (filter_by p q xs same)

-- ---- dependents

pub id_found : (ids : List MapId) (n : ℕ) → list_any (λ (id : MapId). id.0 == n) ids ≡ true → (id : MapId) × Contains ids id × (id.0 ≡ n)
id_found ids n e = let r = any_of (λ (id : MapId). id.0 == n) ids e in (r.0, r.1, eqb-true r.0.0 n r.2)

pub id_there : (ids : List MapId) (id : MapId) → Contains ids id → list_any (λ (x : MapId). x.0 == id.0) ids ≡ true
id_there ids id there = any_in (λ (x : MapId). x.0 == id.0) ids id there (eq-eqb id.0 id.0 refl)

pub has_slot : (slots : List Slot) (m n : ℕ) → HasSizes slots → DependsOn slots m n → option_map_or (λ k. list_any (λ j. j == k) (places_behind slots (mapping_place slots m))) (mapping_place slots n) false ≡ true
has_slot slots m n sizes dep =
    ap (λ o. option_map_or (λ k. list_any (λ j. j == k) (places_behind slots (mapping_place slots m))) o false) dep.dependent_there
    ∙ ap (λ o. list_any (λ j. j == dep.dependent) (places_behind slots o)) dep.on_there
    ∙ (dependent_places-are slots dep.on sizes).all dep.dependent dep.depends

pub slot_has : (slots : List Slot) (m n : ℕ) (o p : Option ℕ) → HasSizes slots → mapping_place slots n ≡ o → mapping_place slots m ≡ p → option_map_or (λ k. list_any (λ j. j == k) (places_behind slots p)) o false ≡ true → DependsOn slots m n
slot_has slots m n None p sizes is_o is_p e = grind (arith, e)
slot_has slots m n (Some j) None sizes is_o is_p e = grind (arith, e)
slot_has slots m n (Some j) (Some k) sizes is_o is_p e =
    record { on = k; dependent = j; on_there = is_p; dependent_there = is_o; depends = (dependent_places-are slots k sizes).only j e }

-- The mapping's id is among these.
abbrev pub has_id_among : List MapId → Mapping → Bool
has_id_among ids d = list_any (λ (id : MapId). id.0 == d.id.0) ids

among_same : (slots : List Slot) (m : ℕ) (ids : List MapId) → HasSizes slots → AreMappings (DependsOn slots m) ids → (d : Mapping) → has_id_among ids d ≡ has_slot_among slots (places_behind slots (mapping_place slots m)) d
among_same slots m ids sizes are d =
    same_tests (has_id_among ids d) (has_slot_among slots (places_behind slots (mapping_place slots m)) d)
    (λ there. let r = id_found ids d.id.0 there in has_slot slots m d.id.0 sizes (subst (DependsOn slots m) r.2 (are.only r.0 r.1)))
    (λ there. id_there ids d.id (are.all d.id (slot_has slots m d.id.0 (mapping_place slots d.id.0) (mapping_place slots m) sizes refl refl there)))

-- The mappings with these ids are the dependents.
pub those_are : (b : Books) (m : Mapping) (ids : List MapId) → HasSizes b.sheet.slots → AreMappings (DependsOn b.sheet.slots m.id.0) ids → filter (has_id_among ids) b.tables.mappings ≡ dependents b m
unfolding dependents
those_are b m ids sizes are =
    filter_by (has_id_among ids) (has_slot_among b.sheet.slots (places_behind b.sheet.slots (mapping_place b.sheet.slots m.id.0))) b.tables.mappings
    (among_same b.sheet.slots m.id.0 ids sizes are)
