-- Whoever is asked has a name.
use Rattle.std.proofs.Common.{◌≡◌, ℕ, suc, ◌+◌, ◌<◌, ◌||◌, ◌==◌, Bool, true, false, not, cond, unwrap_or, Option, Some, None, List, [], ◌∷◌, length, map, All, bytes_eq, codes, refl, sym, ◌∙◌, ap, subst, arith}
use Rattle.std.specs.List.{list_any, position_or_len}
use Rattle.std.specs.Option.{option_map}
use Rattle.std.proofs.lemmas.Bool.{eqb-true}
use Rattle.std.proofs.lemmas.List.Elements.{All-cons, All-head, All-nil, All-tail}
use Rattle.fc_agenda.specs.Goes.{Goes, stays, passes, begins, answers}
use Rattle.fc_base.specs.declared.behind.Behind.{Behind}
use Rattle.fc_base.specs.declared.behind.Behind.TheVariants.{Passing as PassingSeconds, Mapping as MappingOf, Start, Undo}
use Rattle.fc_base.specs.declared.ids.GrainNo.{GrainNo}
use Rattle.fc_base.specs.declared.request.Reply.{Reply}
use Rattle.fc_base.specs.declared.request.Request.{Request}
use Rattle.fc_base.specs.declared.size.GrainSize.{GrainSize}
use Rattle.fc_blocks.specs.Segments.{Segment, single, together}
use Rattle.fc_blocks.specs.declared.block.ActorRead.{ActorRead}
use Rattle.fc_books.specs.Books.{Books}
use Rattle.fc_check_requests.proofs.Places.{place_kept, place_there}
use Rattle.fc_check_lines.specs.Asked.{IsAskedBy}
use Rattle.fc_entry.specs.HistoryState.{number_of_actor, place_of_name}
use Rattle.fc_entry.specs.declared.entry.Entry.{Entry}
use Rattle.fc_legal.proofs.Naming.{HasMore, names_more}
use Rattle.fc_legal.specs.Agenda.{Actors, Agenda, Asks, Begins, Faults, Own, Reading, Seconds, Session, behind_entry, behind_last, behind_own, is_done, next_of_second, segment_read, session_rules, without_entry, without_fill}
use Rattle.fc_legal.specs.Scripts.{Script, are_done, names_with, scripts_of}
use Rattle.fc_legal.specs.Seconds.{Passing, Work, all_work, fill_of, goes_on, next_fill, seconds_begun}
use Rattle.fc_legal.specs.Whole.{Whole, lanes}
use Rattle.fc_scripts.proofs.Left.{has_script, asks_has, numbers_behind}
use Rattle.fc_scripts.proofs.Numbers.{all_known}
use Rattle.fc_scripts.specs.Ways.{numbers_of}
use Rattle.law_stands.proofs.Naming.{names_law_holds}

-- ---- names that are known

abbrev is_name : List ℕ → List ℕ → Bool
is_name name known = bytes_eq known name

-- The number is that of a name.
pub record IsKnownAs (names : List (List ℕ)) (number : ℕ) : Type 0 where
  pub name : List ℕ
  pub place : place_of_name names name ≡ Some number

abbrev IsMain : List (List ℕ) → Type 0
IsMain names = place_of_name names (codes "main") ≡ Some 0

-- The first name is that of number 0.
pub main_first : (names : List (List ℕ)) → IsMain (codes "main" ∷ names)
main_first names = place_there (is_name (codes "main")) (codes "main" ∷ names) (omega arith)

below_case : (here : Bool) (known : Bool) (n place : ℕ) → (known ≡ true → place < n) → (here || known) ≡ true → cond (not here) (1 + place) 0 < suc n
below_case true known n place more e = omega arith
below_case false known n place more e = omega (arith, more e)

below : (names : List (List ℕ)) (name : List ℕ) → list_any (is_name name) names ≡ true → position_or_len (is_name name) names < length names
below [] name e = absurd (cc e)
below (known ∷ names) name e =
    below_case (bytes_eq known name) (list_any (is_name name) names) (length names) (position_or_len (is_name name) names) (λ h. below names name h) e

known_as : (names : List (List ℕ)) (name : List ℕ) → list_any (is_name name) names ≡ true → IsKnownAs names (number_of_actor names name)
known_as names name e =
    let some : place_of_name names name ≡ Some (position_or_len (is_name name) names) = place_there (is_name name) names (below names name e) in
    let number : number_of_actor names name ≡ position_or_len (is_name name) names = ap (λ (o : Option ℕ). unwrap_or o (length names)) some in
    record { name = name; place = some ∙ ap Some (sym number) }

numbers_known : (names : List (List ℕ)) (actors : List ActorRead) → All (λ (a : ActorRead). list_any (is_name a.name) names ≡ true) actors →
    All (IsKnownAs names) (map (λ (a : ActorRead). number_of_actor names a.name) actors)
numbers_known names [] known = All-nil (IsKnownAs names)
numbers_known names (a ∷ actors) known =
    All-cons (IsKnownAs names) (number_of_actor names a.name) (map (λ (x : ActorRead). number_of_actor names x.name) actors)
    (known_as names a.name (All-head (λ (x : ActorRead). list_any (is_name x.name) names ≡ true) a actors known))
    (numbers_known names actors (All-tail (λ (x : ActorRead). list_any (is_name x.name) names ≡ true) a actors known))

-- ---- whoever asks, is known

abbrev AreKnown : Agenda → List (List ℕ) → Type 0
AreKnown (Actors scripts segs) names = All (IsKnownAs names) (numbers_of scripts)
AreKnown a names = Unit {0}

pub record Known (a : Agenda) (names : List (List ℕ)) : Type 0 where
  pub main : IsMain names
  pub actors : AreKnown a names

module _ (grain : GrainSize) (read : Reading) (names : List (List ℕ)) where
  abbrev Here : Agenda → Type 0
  Here a = AreKnown a names

  second_known : (next : Option Passing) (segs : List Segment) → Here (next_of_second next segs)
  second_known None segs = tt
  second_known (Some p) segs = tt

  fill_known : (w : Whole) (p : Passing) (fill : Option (Work × GrainNo)) (segs : List Segment) (b : Agenda) → without_fill grain w p fill segs ≡ Some b → Here b
  fill_known w p None segs b e =
      let is : next_of_second (goes_on grain w p) segs ≡ b = cc e in
      subst Here is (second_known (goes_on grain w p) segs)
  fill_known w p (Some next) segs b e = absurd (cc e)

  done_known : (segs : List Segment) (done : Bool) (b : Agenda) → ◌≡◌ {A = Option Agenda} (cond done (Some (Session segs)) None) (Some b) → Here b
  done_known segs true b e =
      let is : Session segs ≡ b = cc e in
      subst Here is tt
  done_known segs false b e = absurd (cc e)

  begun_known : (w : Whole) (segment : Segment) (segs : List Segment) → Here (segment_read grain read w segment segs)
  begun_known w (single line) segs = tt
  begun_known w (together block) segs = tt

  passes_known : (a b : Agenda) (w : Whole) → without_entry grain read a w ≡ Some b → Here b
  passes_known (Session []) b w e = absurd (cc e)
  passes_known (Session (segment ∷ segs)) b w e =
      let is : segment_read grain read w segment segs ≡ b = cc e in
      subst Here is (begun_known w segment segs)
  passes_known (Own [] behind segs) b w e =
      let is : Session segs ≡ b = cc e in
      subst Here is tt
  passes_known (Own (request ∷ rest) behind segs) b w e = absurd (cc e)
  passes_known (Seconds p segs) b w e = fill_known w p (next_fill grain w p) segs b e
  passes_known (Faults requests actors segs) b w e = absurd (cc e)
  passes_known (Actors scripts segs) b w e = done_known segs (are_done scripts) b e

  begun_by : (p : Passing) (segs : List Segment) (done : Bool) → Here (cond done (Seconds p segs) (Session segs))
  begun_by p segs true = tt
  begun_by p segs false = tt

  last_known : (next : Whole) (reply : Reply) (behind : Behind) (segs : List Segment) → Here (behind_last next reply behind segs)
  last_known next reply (PassingSeconds n) segs = begun_by (seconds_begun n (all_work next.books)) segs (is_done reply)
  last_known next reply (MappingOf source preset name) segs = tt
  last_known next reply (Start volume) segs = tt
  last_known next reply (Undo map volume) segs = tt

  own_known : (next : Whole) (reply : Reply) (rest : List Request) (behind : Behind) (segs : List Segment) → Here (behind_own next reply rest behind segs)
  own_known next reply [] behind segs = last_known next reply behind segs
  own_known next reply (request ∷ rest) behind segs = tt

  behind_known : (a : Agenda) (next : Whole) (entry : Entry) → Here a → Here (behind_entry grain a next entry)
  behind_known (Session segs) next entry known = tt
  behind_known (Own [] behind segs) next entry known = tt
  behind_known (Own (request ∷ rest) behind segs) next entry known = own_known next entry.reply rest behind segs
  behind_known (Seconds p segs) next entry known = tt
  behind_known (Faults [] actors segs) next entry known = tt
  behind_known (Faults (request ∷ rest) actors segs) next entry known = tt
  behind_known (Actors scripts segs) next entry known =
      let P : List ℕ → Type 0 = λ numbers. All (IsKnownAs names) numbers in
      subst P (sym (numbers_behind scripts entry.actor)) known

numbers_of_scripts : (grain : GrainSize) (lanes : ℕ) (b : Books) (names : List (List ℕ)) (actors : List ActorRead) →
    numbers_of (scripts_of grain lanes b names actors) ≡ map (λ (a : ActorRead). number_of_actor names a.name) actors
numbers_of_scripts grain lanes b names [] = refl
numbers_of_scripts grain lanes b names (a ∷ actors) = ap (λ numbers. number_of_actor names a.name ∷ numbers) (numbers_of_scripts grain lanes b names actors)

main_kept : (names : List (List ℕ)) (actors : List ActorRead) → IsMain names → IsMain (names_with names actors)
main_kept names actors main =
    let has : HasMore names (names_with names actors) = names_more names actors in
    ap (λ all. place_of_name all (codes "main")) has.is ∙ place_kept (is_name (codes "main")) names has.more 0 main

module _ (grain : GrainSize) (read : Reading) where
  begins_known : (a b : Agenda) (w v : Whole) → IsMain w.actors → Begins grain a w b v → Known b v.actors
  begins_known (Faults [] actors segs) b w v main on =
      let names : List (List ℕ) = names_with w.actors actors in
      let Q : Agenda → Type 0 = λ c. Known c v.actors in
      let R : Whole → Type 0 = λ u. Known (Actors (scripts_of grain (lanes u) u.books u.actors actors) segs) u.actors in
      let All_known : List ℕ → Type 0 = λ numbers. All (IsKnownAs names) numbers in
      subst Q (sym on.1)
      (subst R (sym on.0) (record {
        main = main_kept w.actors actors main;
        actors = subst All_known (sym (numbers_of_scripts grain (lanes w) w.books names actors)) (numbers_known names actors (all_known w.actors actors));
      }))
  begins_known (Faults (request ∷ rest) actors segs) b w v main on = absurd on
  begins_known (Session segs) b w v main on = absurd on
  begins_known (Own requests behind segs) b w v main on = absurd on
  begins_known (Seconds p segs) b w v main on = absurd on
  begins_known (Actors scripts segs) b w v main on = absurd on

  pub goes_known : (a b : Agenda) (w v : Whole) (entries : List Entry) → Known a w.actors → Goes (session_rules grain read) a w entries b v → Known b v.actors
  goes_known a b w v entries known stays = known
  goes_known a b w v entries known (passes {b = c} on way) =
      goes_known c b w v entries (record { main = known.main; actors = passes_known grain read w.actors a c w on }) way
  goes_known a b w v entries known (begins {b = c} {v = u} on way) = goes_known c b u v entries (begins_known a c w u known.main on) way
  goes_known a b w v entries known (answers {next = next} {entry = entry} {entries = rest} asked right way) =
      let P : List (List ℕ) → Type 0 = λ names. Known (behind_entry grain a next entry) names in
      goes_known (behind_entry grain a next entry) b next v rest
      (subst P (sym (names_law_holds.kept grain w entry next right))
      (record { main = known.main; actors = behind_known grain read w.actors a next entry known.actors }))
      way

  -- ---- by name

  main_known : (w : Whole) (number : ℕ) → IsMain w.actors → 0 ≡ number → IsKnownAs w.actors number
  main_known w number main zero =
      let P : ℕ → Type 0 = λ n. place_of_name w.actors (codes "main") ≡ Some n in
      record { name = codes "main"; place = subst P zero main }

  first_is : (x request : Request) (number : ℕ) → ◌≡◌ {A = Option (ℕ × Request)} (Some (0, x)) (Some (number, request)) → 0 ≡ number
  first_is x request number e =
      let same : ◌≡◌ {A = ℕ × Request} (0, x) (number, request) = cc e in
      ap (λ (p : ℕ × Request). p.0) same

  fill_first : (fill : Option (Work × GrainNo)) (request : Request) (number : ℕ) →
      option_map {U = ℕ × Request} (λ (next : Work × GrainNo). (0, fill_of next.0 next.1)) fill ≡ Some (number, request) →
      0 ≡ number
  fill_first None request number e = absurd (cc e)
  fill_first (Some next) request number e = first_is (fill_of next.0 next.1) request number e

  has_case :
      (names : List (List ℕ)) (s : Script) (ss : List Script) (number : ℕ) (here : Bool) →
      (s.actor == number) ≡ here →
      All (IsKnownAs names) (s.actor ∷ numbers_of ss) →
      (All (IsKnownAs names) (numbers_of ss) → has_script ss number ≡ true → IsKnownAs names number) →
      (here || has_script ss number) ≡ true →
      IsKnownAs names number
  has_case names s ss number true e known more has = subst (IsKnownAs names) (eqb-true s.actor number e) (All-head (IsKnownAs names) s.actor (numbers_of ss) known)
  has_case names s ss number false e known more has = more (All-tail (IsKnownAs names) s.actor (numbers_of ss) known) has

  has_known : (names : List (List ℕ)) (scripts : List Script) (number : ℕ) → All (IsKnownAs names) (numbers_of scripts) → has_script scripts number ≡ true → IsKnownAs names number
  has_known names [] number known has = absurd (cc has)
  has_known names (s ∷ ss) number known has = has_case names s ss number (s.actor == number) refl known (λ k h. has_known names ss number k h) has

  pub number_known : (a : Agenda) (w : Whole) (number : ℕ) (request : Request) → Known a w.actors → Asks grain a w (number, request) → IsKnownAs w.actors number
  number_known (Session segs) w number request known asks = absurd (cc asks)
  number_known (Own [] behind segs) w number request known asks = absurd (cc asks)
  number_known (Own (x ∷ rest) behind segs) w number request known asks = main_known w number known.main (first_is x request number asks)
  number_known (Seconds p segs) w number request known asks = main_known w number known.main (fill_first (next_fill grain w p) request number asks)
  number_known (Faults [] actors segs) w number request known asks = absurd (cc asks)
  number_known (Faults (x ∷ rest) actors segs) w number request known asks = main_known w number known.main (first_is x request number asks)
  number_known (Actors scripts segs) w number request known asks = has_known w.actors scripts number known.actors (asks_has scripts number request asks)

  pub asked_by : (a : Agenda) (w : Whole) (number : ℕ) (request : Request) → Known a w.actors → Asks grain a w (number, request) → (name : List ℕ) × IsAskedBy grain a w name request
  asked_by a w number request known asks =
      let one : IsKnownAs w.actors number = number_known a w number request known asks in
      (one.name, record { actor = number; place = one.place; asks = asks })
