-- The script of an actor, found by its number.
use Rattle.std.proofs.Common.{◌≡◌, ◌↔◌, ℕ, zero, suc, ◌+◌, ◌==◌, ◌<◌, ◌≤◌, Bool, IsTrue, true, false, not, ◌&&◌, cond, Option, Some, None, List, [], ◌∷◌, length, get_or, set, refl, sym, ap, subst, ◌∙◌, arith}
use Rattle.std.specs.List.{list_all, position, position_or_len}
use Rattle.std.proofs.lemmas.Bool.{true≢false}
use Rattle.std.proofs.lemmas.List.Sums.{prefix_len-le-length}
use Rattle.fc_base.specs.declared.request.Request.{Request}
use Rattle.fc_check_requests.proofs.Places.{place_is, place_none}
use Rattle.fc_legal.specs.Scripts.{Script, are_done, asks_nothing, behind_first, behind_next, next_by, next_request}

abbrev is_of : ℕ → Script → Bool
is_of actor s = s.actor == actor

abbrev place_in : List Script → ℕ → ℕ
place_in scripts actor = position_or_len (is_of actor) scripts

-- ---- by its place

next_case :
    (s : Script) (ss : List Script) (actor n : ℕ) (d : Script) (here : Bool) →
    n ≡ cond (not here) (1 + place_in ss actor) 0 →
    n < suc (length ss) →
    ((m : ℕ) → m ≡ place_in ss actor → m < length ss → next_by ss actor ≡ next_request (get_or ss m d).requests) →
    cond here (next_request s.requests) (next_by ss actor) ≡ next_request (get_or (s ∷ ss) n d).requests
next_case s ss actor zero d true is inside more = refl
next_case s ss actor zero d false is inside more = absurd (omega (arith, is))
next_case s ss actor (suc n) d true is inside more = absurd (omega (arith, is))
next_case s ss actor (suc n) d false is inside more = more n (omega (arith, is)) (omega (arith, inside))

next_at : (scripts : List Script) (actor n : ℕ) (d : Script) → n ≡ place_in scripts actor → n < length scripts → next_by scripts actor ≡ next_request (get_or scripts n d).requests
next_at [] actor n d is inside = absurd (omega (arith, inside))
next_at (s ∷ ss) actor n d is inside = next_case s ss actor n d (s.actor == actor) is inside (λ m e lt. next_at ss actor m d e lt)

abbrev pub without_next : Script → Script
without_next s = record s { requests = behind_first s.requests }

behind_case :
    (s : Script) (ss : List Script) (actor n : ℕ) (d : Script) (here : Bool) →
    n ≡ cond (not here) (1 + place_in ss actor) 0 →
    n < suc (length ss) →
    ((m : ℕ) → m ≡ place_in ss actor → m < length ss → behind_next ss actor ≡ set ss m (without_next (get_or ss m d))) →
    cond here (without_next s ∷ ss) (s ∷ behind_next ss actor) ≡ set (s ∷ ss) n (without_next (get_or (s ∷ ss) n d))
behind_case s ss actor zero d true is inside more = refl
behind_case s ss actor zero d false is inside more = absurd (omega (arith, is))
behind_case s ss actor (suc n) d true is inside more = absurd (omega (arith, is))
behind_case s ss actor (suc n) d false is inside more = ap (λ rest. s ∷ rest) (more n (omega (arith, is)) (omega (arith, inside)))

behind_at : (scripts : List Script) (actor n : ℕ) (d : Script) → n ≡ place_in scripts actor → n < length scripts → behind_next scripts actor ≡ set scripts n (without_next (get_or scripts n d))
behind_at [] actor n d is inside = absurd (omega (arith, inside))
behind_at (s ∷ ss) actor n d is inside = behind_case s ss actor n d (s.actor == actor) is inside (λ m e lt. behind_at ss actor m d e lt)

-- ---- without one

none_case :
    (s : Script) (ss : List Script) (actor : ℕ) (here : Bool) →
    cond (not here) (1 + place_in ss actor) 0 ≡ suc (length ss) →
    (place_in ss actor ≡ length ss → (next_by ss actor ≡ None) × (behind_next ss actor ≡ ss)) →
    (cond here (next_request s.requests) (next_by ss actor) ≡ None) × (cond here (without_next s ∷ ss) (s ∷ behind_next ss actor) ≡ s ∷ ss)
none_case s ss actor true is more = absurd (omega (arith, is))
none_case s ss actor false is more =
    let rest : (next_by ss actor ≡ None) × (behind_next ss actor ≡ ss) = more (omega (arith, is)) in
    (rest.0, ap (λ xs. s ∷ xs) rest.1)

none_at : (scripts : List Script) (actor : ℕ) → place_in scripts actor ≡ length scripts → (next_by scripts actor ≡ None) × (behind_next scripts actor ≡ scripts)
none_at [] actor is = (refl, refl)
none_at (s ∷ ss) actor is = none_case s ss actor (s.actor == actor) is (λ e. none_at ss actor e)

-- ---- by what a search says

pub next_found : (scripts : List Script) (actor n : ℕ) (d : Script) → position (λ (s : Script). s.actor == actor) scripts ≡ Some n → next_by scripts actor ≡ next_request (get_or scripts n d).requests
next_found scripts actor n d is =
    let at : (n ≡ place_in scripts actor) × (place_in scripts actor < length scripts) =
    place_is (is_of actor) scripts n is in
    next_at scripts actor n d at.0 (omega (arith, at.0, at.1))

pub behind_found : (scripts : List Script) (actor n : ℕ) (d : Script) → position (λ (s : Script). s.actor == actor) scripts ≡ Some n → behind_next scripts actor ≡ set scripts n (without_next (get_or scripts n d))
behind_found scripts actor n d is =
    let at : (n ≡ place_in scripts actor) × (place_in scripts actor < length scripts) =
    place_is (is_of actor) scripts n is in
    behind_at scripts actor n d at.0 (omega (arith, at.0, at.1))

pub none_found : (scripts : List Script) (actor : ℕ) → position (λ (s : Script). s.actor == actor) scripts ≡ None → (next_by scripts actor ≡ None) × (behind_next scripts actor ≡ scripts)
none_found scripts actor is =
    let past : length scripts ≤ place_in scripts actor = place_none (is_of actor) scripts is in
    none_at scripts actor (omega (arith, past, prefix_len-le-length (λ s. not (is_of actor s)) scripts))

-- What is asked, and what is left, by the place that was found.
pub asks_found : (scripts : List Script) (actor n : ℕ) (d : Script) (said : Bool) (request : Request) → position (λ (s : Script). s.actor == actor) scripts ≡ Some n →
    IsTrue said ↔ (next_request (get_or scripts n d).requests ≡ Some request) → IsTrue said ↔ (next_by scripts actor ≡ Some request)
asks_found scripts actor n d said request is same =
    let P : Option Request → Type 0 = λ next. IsTrue said ↔ (next ≡ Some request) in
    subst P (sym (next_found scripts actor n d is)) same

pub asks_none : (scripts : List Script) (actor : ℕ) (said : Bool) (request : Request) → position (λ (s : Script). s.actor == actor) scripts ≡ None →
    said ≡ false → IsTrue said ↔ (next_by scripts actor ≡ Some request)
asks_none scripts actor said request is isnt =
    (λ t. absurd (true≢false (sym t ∙ isnt)), λ asked. none_some request (sym (none_found scripts actor is).0 ∙ asked))
  where
    none_some : (r : Request) → ◌≡◌ {A = Option Request} None (Some r) → IsTrue said
    none_some r e = absurd (cc e)

pub left_found : (scripts : List Script) (actor n : ℕ) (d own : Script) (rest : List Request) → position (λ (s : Script). s.actor == actor) scripts ≡ Some n →
    own ≡ get_or scripts n d → rest ≡ behind_first own.requests → set scripts n (record own { requests = rest }) ≡ behind_next scripts actor
left_found scripts actor n d own rest is here same =
    ap (λ (rs : List Request). set scripts n (record own { requests = rs })) same
    ∙ ap (λ (s : Script). set scripts n (without_next s)) here
    ∙ sym (behind_found scripts actor n d is)

-- ---- all done

pub all_done : (scripts : List Script) → list_all (λ (s : Script). asks_nothing s.requests) scripts ≡ are_done scripts
all_done [] = refl
all_done (s ∷ ss) = ap (λ rest. asks_nothing s.requests && rest) (all_done ss)

pub nothing_asked : (empty : Bool) (requests : List Request) → IsTrue empty ↔ (requests ≡ []) → empty ≡ asks_nothing requests
nothing_asked true [] same = refl
nothing_asked true (request ∷ rest) same = absurd (cc (same.0 refl))
nothing_asked false [] same = absurd (cc (same.1 refl))
nothing_asked false (request ∷ rest) same = refl
