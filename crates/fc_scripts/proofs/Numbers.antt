-- The scripts of a block are of different actors: each has the number of its name, and their names differ.
use Rattle.std.proofs.Common.{◌≡◌, ◌≢◌, ℕ, suc, ◌+◌, ◌<◌, ◌||◌, Bool, true, false, cond, not, is_some, unwrap_or, Option, Some, None, List, [], ◌∷◌, ◌++◌, length, map, get_or, All, AllPairs, Contains, bytes_eq, codes, refl, sym, ◌∙◌, ap, subst, arith}
use Rattle.std.specs.List.{list_any, position_or_len}
use Rattle.std.proofs.lemmas.Bool.{cond_below}
use Rattle.std.proofs.lemmas.List.{get_or-map, length-map}
use Rattle.std.proofs.lemmas.List.Elements.{All-cons, All-nil, All-map}
use Rattle.std.proofs.lemmas.List.Folds.{list_any-append, list_any_at}
use Rattle.std.proofs.lemmas.List.Quantifiers.{position-Some}
use Rattle.std.proofs.lemmas.Slice.Eq.{bytes_eq-Decides}
use Rattle.fc_base.specs.declared.size.GrainSize.{GrainSize}
use Rattle.fc_blocks.specs.Segments.{together, cut}
use Rattle.fc_blocks.specs.declared.block.ActorRead.{ActorRead}
use Rattle.fc_blocks.specs.declared.block.BlockRead.{BlockRead}
use Rattle.fc_books.specs.Books.{Books}
use Rattle.fc_entry.specs.HistoryState.{number_of_actor, place_of_name, with_actor}
use Rattle.fc_legal.proofs.Naming.{HasMore, names_more}
use Rattle.fc_legal.specs.Scripts.{names_with, scripts_of}
use Rattle.fc_scripts.specs.Ways.{AreOfDifferent, numbers_of}
use Rattle.law_blocks.proofs.Actors.{blocks_law_holds}
use Rattle.law_blocks.specs.Law.{names_of}

-- ---- a name that is known

abbrev is_name : List ℕ → List ℕ → Bool
is_name name known = bytes_eq known name

abbrev knows : List (List ℕ) → List ℕ → Bool
knows names name = list_any (is_name name) names

below_case : (here : Bool) (known : Bool) (n place : ℕ) → (known ≡ true → place < n) → (here || known) ≡ true → cond (not here) (1 + place) 0 < suc n
below_case true known n place more e = omega arith
below_case false known n place more e = omega (arith, more e)

-- It has a place.
place_below : (names : List (List ℕ)) (name : List ℕ) → knows names name ≡ true → position_or_len (is_name name) names < length names
place_below [] name e = absurd (cc e)
place_below (known ∷ names) name e =
    below_case (bytes_eq known name) (knows names name) (length names) (position_or_len (is_name name) names) (place_below names name) e

place_some : (names : List (List ℕ)) (name : List ℕ) → knows names name ≡ true → place_of_name names name ≡ Some (position_or_len (is_name name) names)
place_some names name e =
    let place : ℕ = position_or_len (is_name name) names in
    let None' : Option ℕ = None in
    sym (cond_below place (length names) (Some place) None' (place_below names name e))

-- At its number stands the name.
pub at_number : (names : List (List ℕ)) (name : List ℕ) → knows names name ≡ true → get_or names (number_of_actor names name) [] ≡ name
at_number names name e =
    let place : ℕ = position_or_len (is_name name) names in
    let some : place_of_name names name ≡ Some place = place_some names name e in
    let number : number_of_actor names name ≡ place = ap (λ (o : Option ℕ). unwrap_or o (length names)) some in
    let there = position-Some (is_name name) names place [] some in
    ap (λ n. get_or names n []) number ∙ (bytes_eq-Decides (get_or names place []) name).0 there.1

-- ---- the names of a block are known

some_case : (names : List (List ℕ)) (name : List ℕ) (place : Option ℕ) → place_of_name names name ≡ place → is_some place ≡ true → knows names name ≡ true
some_case names name None e some = absurd (cc some)
some_case names name (Some k) e some =
    let there = position-Some (is_name name) names k [] e in
    list_any_at (is_name name) names k [] there.0 there.1

any_more : (names more : List (List ℕ)) (name : List ℕ) → knows names name ≡ true → knows (names ++ more) name ≡ true
any_more names more name e = list_any-append (is_name name) names more ∙ ap (λ known. known || knows more name) e

or_true : (known : Bool) → (known || true) ≡ true
or_true true = refl
or_true false = refl

with_case : (names : List (List ℕ)) (name : List ℕ) (known : Bool) → is_some (place_of_name names name) ≡ known → knows (cond known names (names ++ name ∷ [])) name ≡ true
with_case names name true e = some_case names name (place_of_name names name) refl e
with_case names name false e =
    list_any-append (is_name name) names (name ∷ [])
    ∙ ap (λ here. knows names name || (here || false)) ((bytes_eq-Decides name name).1 refl)
    ∙ or_true (knows names name)

with_knows : (names : List (List ℕ)) (name : List ℕ) → knows (with_actor names name) name ≡ true
with_knows names name = with_case names name (is_some (place_of_name names name)) refl

kept_known : (names : List (List ℕ)) (actors : List ActorRead) (name : List ℕ) → knows names name ≡ true → knows (names_with names actors) name ≡ true
kept_known names actors name e =
    let has : HasMore names (names_with names actors) = names_more names actors in
    ap (λ all. knows all name) has.is ∙ any_more names has.more name e

abbrev IsKnown : List (List ℕ) → ActorRead → Type 0
IsKnown names a = knows names a.name ≡ true

pub all_known : (names : List (List ℕ)) (actors : List ActorRead) → All (IsKnown (names_with names actors)) actors
all_known names [] = All-nil (IsKnown names)
all_known names (a ∷ actors) =
    All-cons (IsKnown (names_with (with_actor names a.name) actors)) a actors
    (kept_known (with_actor names a.name) actors a.name (with_knows names a.name))
    (all_known (with_actor names a.name) actors)

-- ---- their numbers differ

numbers_are : (grain : GrainSize) (lanes : ℕ) (b : Books) (names : List (List ℕ)) (actors : List ActorRead) →
    numbers_of (scripts_of grain lanes b names actors) ≡ map (λ (a : ActorRead). number_of_actor names a.name) actors
numbers_are grain lanes b names [] = refl
numbers_are grain lanes b names (a ∷ actors) = ap (λ numbers. number_of_actor names a.name ∷ numbers) (numbers_are grain lanes b names actors)

same_names : (names : List (List ℕ)) (one other : ActorRead) → IsKnown names one → IsKnown names other → number_of_actor names one.name ≡ number_of_actor names other.name → one.name ≡ other.name
same_names names one other known known' same =
    sym (at_number names one.name known) ∙ ap (λ n. get_or names n []) same ∙ at_number names other.name known'

numbers_differ : (names : List (List ℕ)) (actors : List ActorRead) → All (IsKnown names) actors → AllPairs (λ one other. one ≢ other) (names_of actors) →
    AllPairs (λ one other. one ≢ other) (map (λ (a : ActorRead). number_of_actor names a.name) actors)
numbers_differ names [] known differ = λ i j d lt inside. absurd (omega arith)
numbers_differ names (first ∷ rest) known differ = λ i j d lt inside same.
    let actors : List ActorRead = first ∷ rest in
    let number : ActorRead → ℕ = λ a. number_of_actor names a.name in
    let name : ActorRead → List ℕ = λ a. a.name in
    let long : length (map number actors) ≡ length actors = length-map actors number in
    let long_names : length (map name actors) ≡ length actors = length-map actors name in
    let j_in : j < length actors = omega (arith, inside, long) in
    let i_in : i < length actors = omega (arith, lt, j_in) in
    let numbers_same : number (get_or actors i first) ≡ number (get_or actors j first) =
    sym (get_or-map number actors i first d i_in) ∙ same ∙ get_or-map number actors j first d j_in in
    let is : (get_or actors i first).name ≡ (get_or actors j first).name =
    same_names names (get_or actors i first) (get_or actors j first) (known i first i_in) (known j first j_in) numbers_same in
    differ i j [] lt (omega (arith, j_in, long_names))
    (get_or-map name actors i first [] i_in ∙ is ∙ sym (get_or-map name actors j first [] j_in))

pub differ_law : (lines : List (List ℕ)) (block : BlockRead) (grain : GrainSize) (lanes : ℕ) (b : Books) (names : List (List ℕ)) →
    Contains (cut lines).segments (together block) →
    AreOfDifferent (scripts_of grain lanes b (names_with names block.actors) block.actors)
differ_law lines block grain lanes b names there =
    let all : List (List ℕ) = names_with names block.actors in
    let Differ : List ℕ → Type 0 = λ numbers. AllPairs (λ one other. one ≢ other) numbers in
    subst Differ (sym (numbers_are grain lanes b all block.actors))
    (numbers_differ all block.actors (all_known names block.actors) (blocks_law_holds lines block there).differ)

-- ---- none is of `main`

abbrev first_name : List (List ℕ) → List ℕ
first_name names = get_or names 0 []

main_first : (names : List (List ℕ)) (actors : List ActorRead) → first_name (names_with (codes "main" ∷ names) actors) ≡ codes "main"
main_first names actors = ap first_name (names_more (codes "main" ∷ names) actors).is

pub not_main_law : (lines : List (List ℕ)) (block : BlockRead) (grain : GrainSize) (lanes : ℕ) (b : Books) (names : List (List ℕ)) →
    Contains (cut lines).segments (together block) →
    All (λ number. number ≢ 0) (numbers_of (scripts_of grain lanes b (names_with (codes "main" ∷ names) block.actors) block.actors))
not_main_law lines block grain lanes b names there =
    let all : List (List ℕ) = names_with (codes "main" ∷ names) block.actors in
    let NotMain : List ℕ → Type 0 = λ numbers. All (λ number. number ≢ 0) numbers in
    let apart = (blocks_law_holds lines block there).not_main in
    let known : All (IsKnown all) block.actors = all_known (codes "main" ∷ names) block.actors in
    subst NotMain (sym (numbers_are grain lanes b all block.actors))
    (All-map (λ number. number ≢ 0) (λ (a : ActorRead). number_of_actor all a.name) block.actors
    (λ k d inside zero_is.
    let a : ActorRead = get_or block.actors k d in
    let long : length (names_of block.actors) ≡ length block.actors = length-map block.actors (λ (x : ActorRead). x.name) in
    let is : a.name ≡ codes "main" = sym (at_number all a.name (known k d inside)) ∙ ap (λ n. get_or all n []) zero_is ∙ main_first names block.actors in
    apart k [] (omega (arith, inside, long)) (get_or-map (λ (x : ActorRead). x.name) block.actors k d [] inside ∙ is)))
