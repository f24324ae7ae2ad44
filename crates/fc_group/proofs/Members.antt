-- What is asked of the members of a list is asked of the whole list.
use Rattle.std.proofs.Common.{◌≡◌, ◌+◌, Bool, true, false, cond, not, ◌&&◌, ◌||◌, List, [], ◌∷◌, Option, Some, None, refl, ap, sym, ◌∙◌, is_some, zero-add, arith}
use Rattle.std.proofs.lemmas.List.Sums.{sum_by-cons}
use Rattle.std.specs.List.{filter, filter_map, list_any, count_by, cons_option}
use Rattle.std.specs.Option.{option_map_or}
use Rattle.fc_base.specs.Tables.{Tables}
use Rattle.fc_base.specs.declared.ids.GroupId.{GroupId}
use Rattle.fc_base.specs.declared.state.MapState.TheVariants.{Empty, IdleOrCopied, Preparing, Prepared, Copying, Stopping, Stopped}
use Rattle.fc_base.specs.declared.volume.Mapping.{Mapping}
use Rattle.fc_books.specs.Accesses.{is_preparing, is_prepared, is_copying, is_stopping, is_stopped}
use Rattle.fc_books.specs.Groups.{is_none_of, is_member, some_in, group_state, state_of_members}
use Rattle.fc_group.specs.States.{is_in_in_state, first_state_of}

-- some member of a filtered list passes where one of the list passes both tests
any_of_one : {X : Type 0} (test : X → Bool) (x : X) (xs : List X) (b rest : Bool) → list_any test xs ≡ rest → list_any test (cond b (x ∷ xs) xs) ≡ ((b && test x) || rest)
any_of_one test x xs true rest e = ap (λ r. test x || r) e
any_of_one test x xs false rest e = e

pub any_of_filter : {X : Type 0} (p test : X → Bool) (xs : List X) → list_any test (filter p xs) ≡ list_any (λ x. p x && test x) xs
any_of_filter p test [] = refl
any_of_filter p test (x ∷ xs) = any_of_one test x (filter p xs) (p x) (list_any (λ y. p y && test y) xs) (any_of_filter p test xs)

-- a filtered list is empty where none passes
none_of_one : (x : Mapping) (xs : List Mapping) (b rest : Bool) → is_none_of xs ≡ not rest → is_none_of (cond b (x ∷ xs) xs) ≡ not (b || rest)
none_of_one x xs true rest e = refl
none_of_one x xs false rest e = e

pub none_of_filter : (p : Mapping → Bool) (xs : List Mapping) → is_none_of (filter p xs) ≡ not (list_any p xs)
none_of_filter p [] = refl
none_of_filter p (x ∷ xs) = none_of_one x (filter p xs) (p x) (list_any p xs) (none_of_filter p xs)

-- the same of the mappings that ids name
found_any : {Y : Type 0} (test : Y → Bool) (o : Option Y) (ys : List Y) → list_any test (cons_option o ys) ≡ (option_map_or test o false || list_any test ys)
found_any test None ys = refl
found_any test (Some y) ys = refl

pub any_of_found : {X Y : Type 0} (h : X → Option Y) (test : Y → Bool) (xs : List X) → list_any test (filter_map h xs) ≡ list_any (λ x. option_map_or test (h x) false) xs
any_of_found h test [] = refl
any_of_found h test (x ∷ xs) =
    found_any test (h x) (filter_map h xs) ∙ ap (λ r. option_map_or test (h x) false || r) (any_of_found h test xs)

found_none : (o : Option Mapping) (ys : List Mapping) (rest : Bool) → is_none_of ys ≡ not rest → is_none_of (cons_option o ys) ≡ not (is_some o || rest)
found_none None ys rest e = e
found_none (Some y) ys rest e = refl

pub none_of_found : {X : Type 0} (h : X → Option Mapping) (xs : List X) → is_none_of (filter_map h xs) ≡ not (list_any (λ x. is_some (h x)) xs)
none_of_found h [] = refl
none_of_found h (x ∷ xs) = found_none (h x) (filter_map h xs) (list_any (λ y. is_some (h y)) xs) (none_of_found h xs)

found_count : {Y : Type 0} (test : Y → Bool) (o : Option Y) (ys : List Y) → count_by test (cons_option o ys) ≡ cond (option_map_or test o false) 1 0 + count_by test ys
found_count test None ys = sym (zero-add (count_by test ys))
found_count test (Some y) ys = sum_by-cons (λ x. cond (test x) 1 0) y ys

pub count_of_found : {X Y : Type 0} (h : X → Option Y) (test : Y → Bool) (xs : List X) → count_by test (filter_map h xs) ≡ count_by (λ x. option_map_or test (h x) false) xs
count_of_found h test [] = refl
count_of_found h test (x ∷ xs) =
    found_count test (h x) (filter_map h xs) ∙ ap (λ n. cond (option_map_or test (h x) false) 1 0 + n) (count_of_found h test xs)
    ∙ sym (sum_by-cons (λ y. cond (option_map_or test (h y) false) 1 0) x xs)

-- the state of a group by tests of all mappings
state_of_some : (xs : List Mapping) → is_none_of xs ≡ false → state_of_members xs ≡ cond (some_in is_preparing xs) Preparing (cond (some_in is_prepared xs) Prepared (cond (some_in is_copying xs) Copying (cond (some_in is_stopping xs) Stopping (cond (some_in is_stopped xs) Stopped IdleOrCopied))))
state_of_some [] e = grind (arith, e)
state_of_some (x ∷ xs) e = refl

by_tests : (a b c d e a' b' c' d' e' : Bool) → a ≡ a' → b ≡ b' → c ≡ c' → d ≡ d' → e ≡ e' → cond a Preparing (cond b Prepared (cond c Copying (cond d Stopping (cond e Stopped IdleOrCopied)))) ≡ cond a' Preparing (cond b' Prepared (cond c' Copying (cond d' Stopping (cond e' Stopped IdleOrCopied))))
by_tests a b c d e a' b' c' d' e' p q r s t = cc

pub group_state-some : (t : Tables) (g : GroupId) → list_any (is_member g) t.mappings ≡ true → group_state t g ≡ first_state_of g t.mappings
group_state-some t g some =
    let found = filter (is_member g) t.mappings in
    state_of_some found (none_of_filter (is_member g) t.mappings ∙ ap not some)
    ∙ by_tests
    (some_in is_preparing found) (some_in is_prepared found) (some_in is_copying found) (some_in is_stopping found) (some_in is_stopped found)
    (list_any (is_in_in_state g Preparing) t.mappings) (list_any (is_in_in_state g Prepared) t.mappings) (list_any (is_in_in_state g Copying) t.mappings) (list_any (is_in_in_state g Stopping) t.mappings) (list_any (is_in_in_state g Stopped) t.mappings)
    (any_of_filter (is_member g) (λ m. is_preparing m.state) t.mappings)
    (any_of_filter (is_member g) (λ m. is_prepared m.state) t.mappings)
    (any_of_filter (is_member g) (λ m. is_copying m.state) t.mappings)
    (any_of_filter (is_member g) (λ m. is_stopping m.state) t.mappings)
    (any_of_filter (is_member g) (λ m. is_stopped m.state) t.mappings)

state_of_none : (xs : List Mapping) → is_none_of xs ≡ true → state_of_members xs ≡ Empty
state_of_none [] e = refl
state_of_none (x ∷ xs) e = grind (arith, e)

pub group_state-none : (t : Tables) (g : GroupId) → list_any (is_member g) t.mappings ≡ false → group_state t g ≡ Empty
group_state-none t g none =
    state_of_none (filter (is_member g) t.mappings) (none_of_filter (is_member g) t.mappings ∙ ap not none)
