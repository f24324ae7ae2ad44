-- Each entry of a block's actors is that of an actor who has a name.
use Rattle.std.proofs.Common.{◌≡◌, ℕ, suc, ◌+◌, ◌==◌, ◌<◌, ◌≤◌, ◌||◌, Bool, true, false, cond, not, unwrap_or, Option, Some, None, List, [], ◌∷◌, ◌++◌, length, get_or, All, Result, Ok, Err, bytes_eq, refl, sym, ap, subst, arith}
use Rattle.std.specs.List.{list_any, position_or_len}
use Rattle.std.proofs.lemmas.Bool.{cond_below, eqb-true}
use Rattle.std.proofs.lemmas.List.Elements.{All-append, All-head, All-map, All-tail}
use Rattle.fc_base.specs.declared.size.GrainSize.{GrainSize}
use Rattle.fc_blocks.specs.declared.block.ActorRead.{ActorRead}
use Rattle.fc_books.specs.Books.{Books}
use Rattle.fc_entry.specs.HistoryState.{HistoryState, number_of_actor}
use Rattle.fc_entry.specs.Text.{HasNames}
use Rattle.fc_entry.specs.declared.entry.Entry.{Entry}
use Rattle.fc_entry.specs.declared.stop.Stop.{Stop}
use Rattle.fc_entry.specs.declared.stop.Stop.TheVariants.{LogFull, NoMemory}
use Rattle.fc_legal.specs.Added.{Adds}
use Rattle.fc_legal.specs.Scripts.{Script, names_with, script_of, scripts_of}
use Rattle.fc_legal.specs.Whole.{Whole}
use Rattle.fc_scripts.proofs.Numbers.{all_known}
use Rattle.fc_scripts.specs.Actors.{AreTheirs}
use Rattle.law_running.specs.Running.{ScriptsRan}

-- ---- an actor's number

abbrev is_name : List ℕ → List ℕ → Bool
is_name name known = bytes_eq known name

below_case : (here known : Bool) (n place : ℕ) → (known ≡ true → place < n) → (here || known) ≡ true → cond (not here) (1 + place) 0 < suc n
below_case true known n place more e = omega arith
below_case false known n place more e = omega (arith, more e)

place_below : (names : List (List ℕ)) (name : List ℕ) → list_any (is_name name) names ≡ true → position_or_len (is_name name) names < length names
place_below [] name e = absurd (cc e)
place_below (known ∷ names) name e =
    below_case (bytes_eq known name) (list_any (is_name name) names) (length names) (position_or_len (is_name name) names) (place_below names name) e

-- That of a known name is the place of a name.
number_below : (names : List (List ℕ)) (name : List ℕ) → list_any (is_name name) names ≡ true → number_of_actor names name < length names
number_below names name e =
    let place : ℕ = position_or_len (is_name name) names in
    let below : place < length names = place_below names name e in
    let None' : Option ℕ = None in
    let number : number_of_actor names name ≡ place =
    ap (λ (o : Option ℕ). unwrap_or o (length names)) (sym (cond_below place (length names) (Some place) None' below)) in
    omega (arith, below, number)

abbrev HasName : ℕ → Script → Type 0
HasName n s = s.actor < n

-- The actors of a block have names, once these have come.
pub scripts_named : (grain : GrainSize) (lanes : ℕ) (b : Books) (names : List (List ℕ)) (actors : List ActorRead) →
    All (HasName (length (names_with names actors))) (scripts_of grain lanes b (names_with names actors) actors)
scripts_named grain lanes b names actors =
    let all : List (List ℕ) = names_with names actors in
    All-map (HasName (length all)) (script_of grain lanes b all) actors
    (λ k d inside. number_below all (get_or actors k d).name (all_known names actors k d inside))

-- ---- entries

named_by : (n a : ℕ) (asked : List Script) → All (HasName n) asked → list_any (λ (s : Script). s.actor == a) asked ≡ true → a < n
named_by n a [] named e = absurd (cc e)
named_by n a (s ∷ ss) named e = by_first (s.actor == a) refl e (λ behind. named_by n a ss (All-tail (HasName n) s ss named) behind)
  where
    by_first : (here : Bool) → (s.actor == a) ≡ here → (here || list_any (λ (x : Script). x.actor == a) ss) ≡ true →
        (list_any (λ (x : Script). x.actor == a) ss ≡ true → a < n) → a < n
    by_first true is either behind = omega (arith, All-head (HasName n) s ss named, eqb-true s.actor a is)
    by_first false is either behind = behind either

-- Those of the scripts, at a history's end.
theirs : (result : Result (Unit {0}) Stop) (Stands : Whole → Type 0) (grain : GrainSize) (w : Whole) (asked : List Script) (old new : HistoryState) →
    ScriptsRan result Stands grain w asked old new → Adds old new (λ more. AreTheirs asked more)
theirs (Ok done) Stands grain w asked old new ran =
    record { more = ran.2.more; entries = ran.2.entries; are = ran.2.are.1.nobody_else }
theirs (Err LogFull) Stands grain w asked old new ran =
    record { more = ran.1.2.more; entries = ran.1.2.entries; are = ran.1.2.are.1.first.nobody_else }
theirs (Err NoMemory) Stands grain w asked old new ran =
    record { more = ran.2.more; entries = ran.2.entries; are = ran.2.are.1.nobody_else }

pub has_names_added : (old new : HistoryState) (more : List Entry) → new.entries ≡ old.entries ++ more → length old.actors ≤ length new.actors →
    HasNames old → All (λ (e : Entry). e.actor < length new.actors) more → HasNames new
has_names_added old new more entries longer named more_named =
    let P : Entry → Type 0 = λ e. e.actor < length new.actors in
    let Q : List Entry → Type 0 = λ es. All P es in
    let old_named : All P old.entries = (λ k d inside. let below = named k d inside in omega (arith, below, longer)) in
    subst Q (sym entries) (All-append P old.entries more old_named more_named)

pub scripts_keep_names : (result : Result (Unit {0}) Stop) (Stands : Whole → Type 0) (grain : GrainSize) (w : Whole) (asked : List Script) (old new : HistoryState) →
    ScriptsRan result Stands grain w asked old new → new.actors ≡ old.actors → All (HasName (length old.actors)) asked → HasNames old → HasNames new
scripts_keep_names result Stands grain w asked old new ran same asked_named named =
    let adds : Adds old new (λ more. AreTheirs asked more) = theirs result Stands grain w asked old new ran in
    let long : length new.actors ≡ length old.actors = ap (λ (names : List (List ℕ)). length names) same in
    has_names_added old new adds.more adds.entries (omega (arith, long)) named
    (λ k d inside. let below = named_by (length old.actors) (get_or adds.more k d).actor asked asked_named (adds.are k d inside) in omega (arith, below, long))
