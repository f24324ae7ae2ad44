-- Mappings that are set: each takes the place of the one with its id.
use Rattle.std.proofs.Common.{◌≡◌, ◌≢◌, ℕ, ◌<◌, false, List, [], ◌∷◌, ◌++◌, map, fold, Some, refl, sym, ap, subst, ◌∙◌, arith, Contains, ◌⊎◌, inl, inr, All}
use Rattle.std.specs.Prelude.{if◌then◌else◌, ◌==◌, find, option_map}
use Rattle.std.proofs.lemmas.Bool.{cases_Bool, eqb-true, eq-eqb, both_ways}
use Rattle.std.proofs.lemmas.List.Elements.{All-contains}
use Rattle.fc_base.specs.Tables.{Tables, IsOrdered, after_change, Fits}
use Rattle.fc_base.specs.declared.decision.LaneEvent.{LaneEvent}
use Rattle.fc_base.specs.declared.ids.GroupId.{GroupId}
use Rattle.fc_base.specs.declared.ids.VolId.{VolId}
use Rattle.fc_base.specs.declared.volume.Change.{Change}
use Rattle.fc_base.specs.declared.volume.Change.TheVariants.{SetMapping}
use Rattle.fc_base.specs.declared.volume.Mapping.{Mapping}
use Rattle.fc_books.specs.Books.{Books}
use Rattle.fc_books.specs.Sound.{AreTables}
use Rattle.fc_legal.specs.Lawful.{FitChanges}
use Rattle.fc_decided.proofs.Frame.{tabled}
use Rattle.fc_decided.proofs.Keeping.{Stay, Keeps, as_large_same}
use Rattle.fc_decided.proofs.Lists.{first_in, later_in, in_cases, none_in, map_in, map_from, all_from}
use Rattle.fc_decided.proofs.Ordered.{one_of_id, map_ordered, found_by_id}

-- Mappings as the table has them, by id and name.
abbrev pub AreOrdered : List Mapping → Type 0
AreOrdered maps = IsOrdered (λ (m : Mapping). m.id.0) (λ (m : Mapping). m.name) maps

pub one_mapping : (maps : List Mapping) (m n : Mapping) → AreOrdered maps → Contains maps m → Contains maps n → m.id.0 ≡ n.id.0 → m ≡ n
one_mapping maps m n o one other same = one_of_id (λ (x : Mapping). x.id.0) (λ (x : Mapping). x.name) maps m n o one other same

-- What becomes of a mapping when one is set, and when some are, one after the other.
abbrev pub set_one : Mapping → Mapping → Mapping
set_one n m = if n.id.0 == m.id.0 then n else m

abbrev pub set_in : List Mapping → Mapping → Mapping
set_in [] m = m
set_in (n ∷ ns) m = set_in ns (set_one n m)

abbrev pub sets : List Mapping → List Change
sets news = map SetMapping news

map_id : (maps : List Mapping) → map (set_in []) maps ≡ maps
map_id [] = refl
map_id (m ∷ ms) = ap (λ xs. m ∷ xs) (map_id ms)

map_set : (n : Mapping) (ns maps : List Mapping) → map (set_in ns) (map (set_one n) maps) ≡ map (set_in (n ∷ ns)) maps
map_set n ns [] = refl
map_set n ns (m ∷ ms) = ap (λ xs. set_in (n ∷ ns) m ∷ xs) (map_set n ns ms)

-- The books with other mappings.
abbrev pub with_mappings : Books → List Mapping → Books
with_mappings b maps = record b { tables = record b.tables { mappings = maps } }

pub tabled_sets : (b : Books) (news : List Mapping) → tabled b (sets news) ≡ with_mappings b (map (set_in news) b.tables.mappings)
tabled_sets b [] = ap (with_mappings b) (sym (map_id b.tables.mappings))
tabled_sets b (n ∷ ns) = tabled_sets (with_mappings b (map (set_one n) b.tables.mappings)) ns ∙ ap (with_mappings b) (map_set n ns b.tables.mappings)

-- ---- one mapping

set_here : (n m : Mapping) → n.id.0 ≡ m.id.0 → set_one n m ≡ n
set_here n m e = rw (eq-eqb n.id.0 m.id.0 e) refl

set_other : (n m : Mapping) → (n.id.0 == m.id.0) ≡ false → set_one n m ≡ m
set_other n m e = rw e refl

-- It is as it was, and none of those has its id; or it is one of them.
abbrev pub SetCases : List Mapping → Mapping → Mapping → Type 0
SetCases news m x = ((x ≡ m) × ((n : Mapping) → Contains news n → n.id.0 ≢ m.id.0)) ⊎ (Contains news x × (x.id.0 ≡ m.id.0))

pub set_cases : (news : List Mapping) (m : Mapping) → SetCases news m (set_in news m)
set_cases [] m = inl (refl, λ n found. absurd (none_in n found))
set_cases (n ∷ ns) m = elim (cases_Bool (n.id.0 == m.id.0)) [
  | inl t ↦ subst (λ (x : Mapping). SetCases (n ∷ ns) m (set_in ns x)) (sym (set_here n m (eqb-true n.id.0 m.id.0 t))) (set_now n ns m (eqb-true n.id.0 m.id.0 t) (set_cases ns n))
  | inr f ↦ subst (λ (x : Mapping). SetCases (n ∷ ns) m (set_in ns x)) (sym (set_other n m f)) (set_later n ns m f (set_cases ns m))
]
  where
    set_now : (n : Mapping) (ns : List Mapping) (m : Mapping) → n.id.0 ≡ m.id.0 → SetCases ns n (set_in ns n) → SetCases (n ∷ ns) m (set_in ns n)
    set_now n ns m e (inl here) = inr (subst (λ (x : Mapping). Contains (n ∷ ns) x) (sym here.0) (first_in n ns), ap (λ (x : Mapping). x.id.0) here.0 ∙ e)
    set_now n ns m e (inr there) = inr (later_in n (set_in ns n) ns there.0, there.1 ∙ e)

    set_later : (n : Mapping) (ns : List Mapping) (m : Mapping) → (n.id.0 == m.id.0) ≡ false → SetCases ns m (set_in ns m) → SetCases (n ∷ ns) m (set_in ns m)
    set_later n ns m f (inl same) =
        inl (same.0, λ x found e. elim (in_cases n x ns found) [ inl first ↦ both_ways (n.id.0 == m.id.0) f (eq-eqb n.id.0 m.id.0 (ap (λ (z : Mapping). z.id.0) first ∙ e)) | inr rest ↦ same.1 x rest e ])
    set_later n ns m f (inr there) = inr (later_in n (set_in ns m) ns there.0, there.1)

-- ---- the same mapping, in another state

-- Id, name and volumes stay, and a mapping joins no group.
pub record Restated (m n : Mapping) : Type 0 where
  pub id : n.id.0 ≡ m.id.0
  pub name : n.name ≡ m.name
  pub source : n.source ≡ m.source
  pub target : n.target ≡ m.target
  pub incremental : n.incremental ≡ m.incremental
  pub group : (g : GroupId) → n.group ≡ Some g → m.group ≡ Some g

pub itself : (m : Mapping) → Restated m m
itself m = record { id = refl; name = refl; source = refl; target = refl; incremental = refl; group = λ g e. e }

-- All that is set is of mappings that are there.
abbrev pub AreRestated : List Mapping → List Mapping → Type 0
AreRestated maps news = (n : Mapping) → Contains news n → (m : Mapping) × Contains maps m × Restated m n

pub restated_in : (maps news : List Mapping) (m : Mapping) → AreOrdered maps → AreRestated maps news → Contains maps m → Restated m (set_in news m)
restated_in maps news m o from found = elim (set_cases news m) [
  | inl same ↦ subst (Restated m) (sym same.0) (itself m)
  | inr there ↦
      let r = from (set_in news m) there.0 in
      subst (λ (x : Mapping). Restated x (set_in news m)) (one_mapping maps r.0 m o r.1 found (sym r.2.id ∙ there.1)) r.2
]

-- They stay, whatever the events.
pub sets_stay : (maps news : List Mapping) (es : List LaneEvent) → AreOrdered maps → AreRestated maps news → Stay maps (map (set_in news) maps) es
sets_stay maps news es o from m found =
    let r = restated_in maps news m o from found in
    inl (set_in news m, map_in (set_in news) maps m found, record { id = r.id; source = ap (λ (v : VolId). v.0) r.source; target = ap (λ (v : VolId). v.0) r.target; incremental = r.incremental })

pub sets_keep : (b : Books) (news : List Mapping) (es : List LaneEvent) → AreOrdered b.tables.mappings → AreRestated b.tables.mappings news → Keeps b.tables (with_mappings b (map (set_in news) b.tables.mappings)).tables es
sets_keep b news es o from =
    record {
      stay = sets_stay b.tables.mappings news es o from;
      as_large = as_large_same b.tables (with_mappings b (map (set_in news) b.tables.mappings)).tables refl;
    }

-- ---- the tables after it

abbrev IsNamed : List Mapping → Mapping → Type 0
IsNamed maps n = (m : Mapping) × Contains maps m × (n.id.0 ≡ m.id.0) × (n.name ≡ m.name)

name_found : (t : Tables) (n : Mapping) → AreOrdered t.mappings → IsNamed t.mappings n → Fits t (SetMapping n)
name_found t n o named =
    ap (option_map (λ (m : Mapping). m.name))
    (ap (λ (i : ℕ). find (λ (m : Mapping). i == m.id.0) t.mappings) named.2 ∙ found_by_id (λ (m : Mapping). m.id.0) (λ (m : Mapping). m.name) t.mappings named.0 o named.1)
    ∙ ap Some (sym named.3)

set_id : (n m : Mapping) → (set_one n m).id.0 ≡ m.id.0
set_id n m = elim (cases_Bool (n.id.0 == m.id.0)) [
  | inl t ↦ ap (λ (x : Mapping). x.id.0) (set_here n m (eqb-true n.id.0 m.id.0 t)) ∙ eqb-true n.id.0 m.id.0 t
  | inr f ↦ ap (λ (x : Mapping). x.id.0) (set_other n m f)
]

set_name : (maps : List Mapping) (n m : Mapping) → AreOrdered maps → IsNamed maps n → Contains maps m → (set_one n m).name ≡ m.name
set_name maps n m o named found = elim (cases_Bool (n.id.0 == m.id.0)) [
  | inl t ↦
      let e = eqb-true n.id.0 m.id.0 t in
      ap (λ (x : Mapping). x.name) (set_here n m e) ∙ named.3 ∙ ap (λ (x : Mapping). x.name) (one_mapping maps named.0 m o named.1 found (sym named.2 ∙ e))
  | inr f ↦ ap (λ (x : Mapping). x.name) (set_other n m f)
]

fit_named : (t : Tables) (news : List Mapping) → AreOrdered t.mappings → ((n : Mapping) → Contains news n → IsNamed t.mappings n) → FitChanges t (sets news)
fit_named t [] o named = tt
fit_named t (n ∷ ns) o named =
    let first = named n (first_in n ns) in (
      name_found t n o first,
      fit_named (after_change t (SetMapping n)) ns
          (map_ordered (λ (m : Mapping). m.id.0) (λ (m : Mapping). m.name) (set_one n) t.mappings (λ m found. set_id n m) (λ m found. set_name t.mappings n m o first found) o)
          (λ x found. let r = named x (later_in n x ns found) in
          (set_one n r.0, map_in (set_one n) t.mappings r.0 r.1, r.2 ∙ sym (set_id n r.0), r.3 ∙ sym (set_name t.mappings n r.0 o first r.1))),
    )

pub fit_sets : (t : Tables) (news : List Mapping) → AreOrdered t.mappings → AreRestated t.mappings news → FitChanges t (sets news)
fit_sets t news o from = fit_named t news o (λ n found. let r = from n found in (r.0, r.1, r.2.id, r.2.name))

pub fit_append : (t : Tables) (cs ds : List Change) → FitChanges t cs → FitChanges (fold after_change t cs) ds → FitChanges t (cs ++ ds)
fit_append t [] ds first second = second
fit_append t (c ∷ cs) ds first second = (first.0, fit_append (after_change t c) cs ds first.1 second)

pub sets_ordered : (maps news : List Mapping) → AreOrdered maps → AreRestated maps news → AreOrdered (map (set_in news) maps)
sets_ordered maps news o from =
    map_ordered (λ (m : Mapping). m.id.0) (λ (m : Mapping). m.name) (set_in news) maps (λ m found. (restated_in maps news m o from found).id) (λ m found. (restated_in maps news m o from found).name) o

pub sets_below : (maps news : List Mapping) (n : ℕ) → AreOrdered maps → AreRestated maps news → All (λ (m : Mapping). m.id.0 < n) maps → All (λ (m : Mapping). m.id.0 < n) (map (set_in news) maps)
sets_below maps news n o from below =
    all_from (λ (m : Mapping). m.id.0 < n) (map (set_in news) maps)
    (λ x found.
    let r = map_from (set_in news) maps x found in
    let lt = All-contains (λ (m : Mapping). m.id.0 < n) maps r.0 below r.1 in
    let e : x.id.0 ≡ r.0.id.0 = ap (λ (z : Mapping). z.id.0) (sym r.2) ∙ (restated_in maps news r.0 o from r.1).id in
    omega (arith, lt, e))

pub tables_set : (b : Books) (news : List Mapping) → AreTables b → AreRestated b.tables.mappings news → AreTables (with_mappings b (map (set_in news) b.tables.mappings))
tables_set b news t from =
    record {
      volumes = t.volumes;
      mappings = sets_ordered b.tables.mappings news t.mappings from;
      groups = t.groups;
      new_volume = t.new_volume;
      new_mapping = sets_below b.tables.mappings news b.next_mapping t.mappings from t.new_mapping;
      new_group = t.new_group;
    }
