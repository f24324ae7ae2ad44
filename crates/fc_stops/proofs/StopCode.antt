-- What is asked and refused of a group's stop, as the code finds it.
use Rattle.std.proofs.Common.{◌≡◌, ◌∙◌, sym, ap, subst, ℕ, zero, suc, ◌+◌, ◌<◌, Bool, true, false, cond, not, ◌&&◌, ◌||◌, List, [], ◌∷◌, ◌++◌, length, take, drop, get_or, Option, Some, None, Contains, refl, arith}
use Rattle.std.specs.Prelude.{◌↔◌}
use Rattle.std.specs.List.{list_any, filter}
use Rattle.std.proofs.lemmas.List.{take_more, take-append-drop}
use Rattle.std.proofs.lemmas.List.Kept.{AllPairs-filter}
use Rattle.fc_base.specs.SheetView.{AreMappings}
use Rattle.fc_base.specs.declared.command.StopWay.{StopWay}
use Rattle.fc_base.specs.declared.fault.Refusal.{Refusal}
use Rattle.fc_base.specs.declared.fault.Refusal.TheVariants.{Empty as EmptyGroup, NotAllowed}
use Rattle.fc_base.specs.declared.ids.GroupId.{GroupId}
use Rattle.fc_base.specs.declared.ids.MapId.{MapId}
use Rattle.fc_base.specs.declared.volume.Change.{Change}
use Rattle.fc_base.specs.declared.volume.Mapping.{Mapping}
use Rattle.fc_books.specs.Books.{Books}
use Rattle.fc_books.specs.Groups.{acts_on, is_member, members, some_in, is_none_of, group_state}
use Rattle.fc_books.specs.RefusedStarts.{not_complete, for_each, split_refusals}
use Rattle.fc_entry.specs.Refused.{first_of, where_}
use Rattle.fc_stops.proofs.StopAsked.{any_of, any_in}
use Rattle.fc_stops.specs.Stops.{changes_some}
use Rattle.fc_stops.specs.StopGroups.{refused_group, is_acted}
use Rattle.fc_desk.specs.Refusing.{or_else}

-- ---- what is asked

abbrev unchanged : List Change → MapId → Bool
unchanged cs id = not (changes_some id.0 cs)

not_true : (b : Bool) → not b ≡ true → b ≡ false
not_true true e = grind (arith, e)
not_true false e = refl

true_not : (b : Bool) → b ≡ false → not b ≡ true
true_not b e = rw e refl

pub needed_left : (P : ℕ → Type 0) (cs : List Change) (ids : List MapId) (needed : Bool) → AreMappings P ids → needed ≡ list_any (λ (id : MapId). not (changes_some id.0 cs)) ids → (needed ≡ true) ↔ ((n : ℕ) × P n × (changes_some n cs ≡ false))
needed_left P cs ids needed are is = (
  λ e. let r = any_of (unchanged cs) ids (sym is ∙ e) in (r.0.0, are.only r.0 r.1, not_true (changes_some r.0.0 cs) r.2),
  λ x. let id : MapId = record { 0 = x.0 } in is ∙ any_in (unchanged cs) ids id (are.all id x.1) (true_not (changes_some x.0 cs) x.2),
)

one_more : (y x : MapId) (xs : List MapId) → Contains xs x → Contains (y ∷ xs) x
one_more y x xs c = (suc c.0, omega (arith, c.1), c.2)

filter_test : (p : MapId → Bool) (ys : List MapId) (x : MapId) → Contains (filter p ys) x → (Contains ys x) × (p x ≡ true)
filter_test p [] x (k, lt, e) = absurd (omega arith)
filter_test p (y ∷ ys) x c = put (p y) refl c
    (λ d. filter_test p ys x d)
  where
    put : (b : Bool) → p y ≡ b → Contains (cond b (y ∷ filter p ys) (filter p ys)) x → (Contains (filter p ys) x → (Contains ys x) × (p x ≡ true)) → (Contains (y ∷ ys) x) × (p x ≡ true)
    put true is (zero, lt, e) later = ((zero, omega arith, e), ap p (sym e) ∙ is)
    put true is (suc k, lt, e) later = let r = later (k, omega (arith, lt), e) in (one_more y x ys r.0, r.1)
    put false is d later = let r = later d in (one_more y x ys r.0, r.1)

filter_has : (p : MapId → Bool) (ys : List MapId) (x : MapId) → Contains ys x → p x ≡ true → Contains (filter p ys) x
filter_has p [] x (k, lt, e) is = absurd (omega arith)
filter_has p (y ∷ ys) x (zero, lt, e) is = put (p y) (ap p e ∙ is)
  where
    put : (b : Bool) → b ≡ true → Contains (cond b (y ∷ filter p ys) (filter p ys)) x
    put true f = (zero, omega arith, e)
    put false f = grind (arith, f)
filter_has p (y ∷ ys) x (suc k, lt, e) is = put (p y) (filter_has p ys x (k, omega (arith, lt), e) is)
  where
    put : (b : Bool) → Contains (filter p ys) x → Contains (cond b (y ∷ filter p ys) (filter p ys)) x
    put true c = one_more y x (filter p ys) c
    put false c = c

pub those_left : (P : ℕ → Type 0) (cs : List Change) (ids left : List MapId) → AreMappings P ids → left ≡ filter (λ (id : MapId). not (changes_some id.0 cs)) ids → AreMappings (λ n. P n × (changes_some n cs ≡ false)) left
those_left P cs ids left are is =
    let Q : List MapId → Type 0 = λ xs. AreMappings (λ n. P n × (changes_some n cs ≡ false)) xs in
    subst Q (sym is)
    (record {
      rising = AllPairs-filter (λ (x y : MapId). x.0 < y.0) (unchanged cs) ids are.rising;
      only = λ x c. let r = filter_test (unchanged cs) ids x c in (are.only x r.0, not_true (changes_some x.0 cs) r.1);
      all = λ x holds. filter_has (unchanged cs) ids x (are.all x holds.0) (true_not (changes_some x.0 cs) holds.1);
    })

-- ---- what is refused

two : (o r : Option Refusal) → first_of (o ∷ r ∷ []) ≡ or_else o r
two (Some refusal) r = refl
two None None = refl
two None (Some refusal) = refl

or_then : (a b c : Option Refusal) → or_else a (or_else b c) ≡ or_else (or_else a b) c
or_then None b c = refl
or_then (Some refusal) b c = refl

each_then : (way : StopWay) (b : Books) (xs ys : List Mapping) → for_each (split_refusals way b) (xs ++ ys) ≡ or_else (for_each (split_refusals way b) xs) (for_each (split_refusals way b) ys)
each_then way b [] ys = refl
each_then way b (x ∷ xs) ys =
    let o = cond (acts_on way x.state) (not_complete way b x) None in
    two o (for_each (split_refusals way b) (xs ++ ys))
    ∙ ap (or_else o) (each_then way b xs ys)
    ∙ or_then o (for_each (split_refusals way b) xs) (for_each (split_refusals way b) ys)
    ∙ ap (λ r. or_else r (for_each (split_refusals way b) ys)) (sym (two o (for_each (split_refusals way b) xs)))

filter_then : (p : Mapping → Bool) (xs ys : List Mapping) → filter p (xs ++ ys) ≡ (filter p xs ++ filter p ys)
filter_then p [] ys = refl
filter_then p (x ∷ xs) ys = ap (λ rest. cond (p x) (x ∷ rest) rest) (filter_then p xs ys) ∙ put (p x)
  where
    put : (b : Bool) → cond b (x ∷ (filter p xs ++ filter p ys)) (filter p xs ++ filter p ys) ≡ (cond b (x ∷ filter p xs) (filter p xs) ++ filter p ys)
    put true = refl
    put false = refl

abbrev each : StopWay → GroupId → Books → List Mapping → Option Refusal
each way g b maps = for_each (split_refusals way b) (filter (is_member g) maps)

one_each : (way : StopWay) (g : GroupId) (b : Books) (m : Mapping) → each way g b (m ∷ []) ≡ cond (is_acted way g m) (not_complete way b m) None
one_each way g b m = put (is_member g m) (acts_on way m.state) refl
  where
    alone : (o : Option Refusal) → first_of (o ∷ None ∷ []) ≡ o
    alone None = refl
    alone (Some refusal) = refl

    put : (c a : Bool) → acts_on way m.state ≡ a → for_each (split_refusals way b) (cond c (m ∷ []) []) ≡ cond (c && a) (not_complete way b m) None
    put true a is = alone (cond (acts_on way m.state) (not_complete way b m) None) ∙ ap (λ z. cond z (not_complete way b m) None) is
    put false a is = refl

pub each_next : (way : StopWay) (g : GroupId) (b : Books) (maps : List Mapping) (i : ℕ) (m : Mapping) (found : Option Refusal) → i < length maps → m ≡ get_or maps i m → found ≡ cond (is_acted way g m) (not_complete way b m) None → each way g b (take i maps) ≡ None → each way g b (take (i + 1) maps) ≡ found
each_next way g b maps i m found lt at is none =
    ap (each way g b) (take_more maps i m lt ∙ ap (λ x. take i maps ++ x ∷ []) (sym at))
    ∙ ap (for_each (split_refusals way b)) (filter_then (is_member g) (take i maps) (m ∷ []))
    ∙ each_then way b (filter (is_member g) (take i maps)) (filter (is_member g) (m ∷ []))
    ∙ ap (λ o. or_else o (each way g b (m ∷ []))) none
    ∙ one_each way g b m
    ∙ sym is

pub each_found : (way : StopWay) (g : GroupId) (b : Books) (items maps : List Mapping) (i : ℕ) (m : Mapping) (found : Option Refusal) (refusal : Refusal) → i < length items → m ≡ get_or items i m → found ≡ cond (is_acted way g m) (not_complete way b m) None → each way g b (take i items) ≡ None → found ≡ Some refusal → items ≡ maps → Some refusal ≡ for_each (split_refusals way b) (filter (is_member g) maps)
each_found way g b items maps i m found refusal lt at is none some same =
    sym
    (ap (each way g b) (sym same ∙ sym (take-append-drop (i + 1) items))
    ∙ ap (for_each (split_refusals way b)) (filter_then (is_member g) (take (i + 1) items) (drop (i + 1) items))
    ∙ each_then way b (filter (is_member g) (take (i + 1) items)) (filter (is_member g) (drop (i + 1) items))
    ∙ ap (λ o. or_else o (each way g b (drop (i + 1) items))) (each_next way g b items i m found lt at is none ∙ some))

none_in : (g : GroupId) (maps : List Mapping) → is_none_of (filter (is_member g) maps) ≡ not (list_any (is_member g) maps)
none_in g [] = refl
none_in g (m ∷ ms) = put (is_member g m) (none_in g ms)
  where
    put : (c : Bool) → is_none_of (filter (is_member g) ms) ≡ not (list_any (is_member g) ms) → is_none_of (cond c (m ∷ filter (is_member g) ms) (filter (is_member g) ms)) ≡ not (c || list_any (is_member g) ms)
    put true e = refl
    put false e = e

acted_in : (way : StopWay) (g : GroupId) (maps : List Mapping) → some_in (acts_on way) (filter (is_member g) maps) ≡ list_any (is_acted way g) maps
acted_in way g [] = refl
acted_in way g (m ∷ ms) = put (is_member g m) (acted_in way g ms)
  where
    put : (c : Bool) → some_in (acts_on way) (filter (is_member g) ms) ≡ list_any (is_acted way g) ms → some_in (acts_on way) (cond c (m ∷ filter (is_member g) ms) (filter (is_member g) ms)) ≡ ((c && acts_on way m.state) || list_any (is_acted way g) ms)
    put true e = ap (λ z. acts_on way m.state || z) e
    put false e = e

abbrev told_by : Bool → Bool → Refusal → Option Refusal → Option Refusal
told_by some acts busy rest = first_of (where_ (not some) EmptyGroup ∷ where_ (not acts) busy ∷ rest ∷ [])

last_of : (r : Option Refusal) → first_of (r ∷ []) ≡ r
last_of None = refl
last_of (Some refusal) = refl

by_tests : (way : StopWay) (g : GroupId) (b : Books) → refused_group way b g ≡ told_by (list_any (is_member g) b.tables.mappings) (list_any (is_acted way g) b.tables.mappings) (NotAllowed (group_state b.tables g)) (each way g b b.tables.mappings)
by_tests way g b =
    ap (λ z. first_of (where_ z EmptyGroup ∷ where_ (not (some_in (acts_on way) (members b.tables g))) (NotAllowed (group_state b.tables g)) ∷ each way g b b.tables.mappings ∷ [])) (none_in g b.tables.mappings)
    ∙ ap (λ z. told_by (list_any (is_member g) b.tables.mappings) z (NotAllowed (group_state b.tables g)) (each way g b b.tables.mappings)) (acted_in way g b.tables.mappings)

pub refused_empty : (way : StopWay) (g : GroupId) (b : Books) → list_any (is_member g) b.tables.mappings ≡ false → Some EmptyGroup ≡ refused_group way b g
refused_empty way g b none = sym (by_tests way g b ∙ ap (λ z. told_by z (list_any (is_acted way g) b.tables.mappings) (NotAllowed (group_state b.tables g)) (each way g b b.tables.mappings)) none)

pub refused_state : (way : StopWay) (g : GroupId) (b : Books) → list_any (is_member g) b.tables.mappings ≡ true → list_any (is_acted way g) b.tables.mappings ≡ false → Some (NotAllowed (group_state b.tables g)) ≡ refused_group way b g
refused_state way g b some none =
    sym (by_tests way g b
    ∙ ap (λ z. told_by z (list_any (is_acted way g) b.tables.mappings) (NotAllowed (group_state b.tables g)) (each way g b b.tables.mappings)) some
    ∙ ap (λ z. told_by true z (NotAllowed (group_state b.tables g)) (each way g b b.tables.mappings)) none)

pub refused_split : (way : StopWay) (g : GroupId) (b : Books) (found : Option Refusal) → list_any (is_member g) b.tables.mappings ≡ true → list_any (is_acted way g) b.tables.mappings ≡ true → found ≡ for_each (split_refusals way b) (members b.tables g) → found ≡ refused_group way b g
refused_split way g b found some acts is =
    is
    ∙ sym (by_tests way g b
    ∙ ap (λ z. told_by z (list_any (is_acted way g) b.tables.mappings) (NotAllowed (group_state b.tables g)) (each way g b b.tables.mappings)) some
    ∙ ap (λ z. told_by true z (NotAllowed (group_state b.tables g)) (each way g b b.tables.mappings)) acts
    ∙ last_of (each way g b b.tables.mappings))

pub none_of : (o : Option Refusal) → ((refusal : Refusal) → o ≡ Some refusal → ⊥) → o ≡ None
none_of None not_some = refl
none_of (Some refusal) not_some = absurd (not_some refusal refl)
