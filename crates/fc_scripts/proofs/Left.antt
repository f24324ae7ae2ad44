-- What each actor still asks, by its number, as entries take the next requests from the scripts.
use Rattle.std.proofs.Common.{◌≡◌, ◌≢◌, ℕ, zero, suc, ◌==◌, ◌<◌, ◌&&◌, ◌||◌, Bool, true, false, cond, Option, Some, List, [], ◌∷◌, length, get_or, All, refl, sym, ◌∙◌, ap, arith}
use Rattle.std.specs.List.{list_any}
use Rattle.std.proofs.Math.ListN.{get_or-map}
use Rattle.std.proofs.lemmas.Bool.{cond-true, cond-false, eq-eqb, eqb-true}
use Rattle.std.proofs.lemmas.List.{length-map}
use Rattle.std.proofs.lemmas.List.Elements.{All-cons, All-head, All-nil, All-tail}
use Rattle.fc_base.specs.declared.request.Request.{Request}
use Rattle.fc_legal.specs.Scripts.{Script, are_done, asks_nothing, behind_first, behind_next, next_request, next_by}
use Rattle.fc_scripts.specs.Ways.{AreOfDifferent, numbers_of}

-- What an actor still asks: nothing, where it has no script.
abbrev pub left_by : List Script → ℕ → List Request
left_by [] actor = []
left_by (s ∷ scripts) actor = cond (s.actor == actor) s.requests (left_by scripts actor)

abbrev pub has_script : List Script → ℕ → Bool
has_script scripts actor = list_any (λ (s : Script). s.actor == actor) scripts

pub not_same : (x y : ℕ) → x ≢ y → (x == y) ≡ false
not_same x y differ = by_test (x == y) refl
  where
    by_test : (same : Bool) → (x == y) ≡ same → (x == y) ≡ false
    by_test true e = absurd (differ (eqb-true x y e))
    by_test false e = e

-- ---- the next request

next_cond : (here : Bool) (own left : List Request) (next : Option Request) → next ≡ next_request left → cond here (next_request own) next ≡ next_request (cond here own left)
next_cond true own left next e = refl
next_cond false own left next e = e

pub next_left : (scripts : List Script) (a : ℕ) → next_by scripts a ≡ next_request (left_by scripts a)
next_left [] a = refl
next_left (s ∷ ss) a = next_cond (s.actor == a) s.requests (left_by ss a) (next_by ss a) (next_left ss a)

pub some_first : (requests : List Request) (r : Request) → next_request requests ≡ Some r → requests ≡ r ∷ behind_first requests
some_first [] r e = absurd (cc e)
some_first (x ∷ xs) r e =
    let is : x ≡ r = cc e in
    ap (λ y. y ∷ xs) is

-- ---- behind it

own_case :
    (s : Script) (ss : List Script) (a : ℕ) (here : Bool) →
    (s.actor == a) ≡ here →
    left_by (behind_next ss a) a ≡ behind_first (left_by ss a) →
    left_by (cond here (record s { requests = behind_first s.requests } ∷ ss) (s ∷ behind_next ss a)) a ≡ behind_first (cond here s.requests (left_by ss a))
own_case s ss a true e rest = cond-true (s.actor == a) (behind_first s.requests) (left_by ss a) e
own_case s ss a false e rest = cond-false (s.actor == a) s.requests (left_by (behind_next ss a) a) e ∙ rest

pub behind_own : (scripts : List Script) (a : ℕ) → left_by (behind_next scripts a) a ≡ behind_first (left_by scripts a)
behind_own [] a = refl
behind_own (s ∷ ss) a = own_case s ss a (s.actor == a) refl (behind_own ss a)

others_case :
    (s : Script) (ss : List Script) (a b : ℕ) (here : Bool) →
    (s.actor == a) ≡ here →
    a ≢ b →
    left_by (behind_next ss a) b ≡ left_by ss b →
    left_by (cond here (record s { requests = behind_first s.requests } ∷ ss) (s ∷ behind_next ss a)) b ≡ cond (s.actor == b) s.requests (left_by ss b)
others_case s ss a b true e differ rest =
    let no : (s.actor == b) ≡ false = not_same s.actor b (λ same. differ (sym (eqb-true s.actor a e) ∙ same)) in
    cond-false (s.actor == b) (behind_first s.requests) (left_by ss b) no ∙ sym (cond-false (s.actor == b) s.requests (left_by ss b) no)
others_case s ss a b false e differ rest = ap (λ left. cond (s.actor == b) s.requests left) rest

pub behind_others : (scripts : List Script) (a b : ℕ) → a ≢ b → left_by (behind_next scripts a) b ≡ left_by scripts b
behind_others [] a b differ = refl
behind_others (s ∷ ss) a b differ = others_case s ss a b (s.actor == a) refl differ (behind_others ss a b differ)

-- ---- actors stay those that they were

has_case :
    (s : Script) (ss : List Script) (a b : ℕ) (here : Bool) →
    has_script (behind_next ss a) b ≡ has_script ss b →
    has_script (cond here (record s { requests = behind_first s.requests } ∷ ss) (s ∷ behind_next ss a)) b ≡ ((s.actor == b) || has_script ss b)
has_case s ss a b true rest = refl
has_case s ss a b false rest = ap (λ has. (s.actor == b) || has) rest

pub has_behind : (scripts : List Script) (a b : ℕ) → has_script (behind_next scripts a) b ≡ has_script scripts b
has_behind [] a b = refl
has_behind (s ∷ ss) a b = has_case s ss a b (s.actor == a) (has_behind ss a b)

numbers_case :
    (s : Script) (ss : List Script) (a : ℕ) (here : Bool) →
    numbers_of (behind_next ss a) ≡ numbers_of ss →
    numbers_of (cond here (record s { requests = behind_first s.requests } ∷ ss) (s ∷ behind_next ss a)) ≡ s.actor ∷ numbers_of ss
numbers_case s ss a true rest = refl
numbers_case s ss a false rest = ap (λ numbers. s.actor ∷ numbers) rest

pub numbers_behind : (scripts : List Script) (a : ℕ) → numbers_of (behind_next scripts a) ≡ numbers_of scripts
numbers_behind [] a = refl
numbers_behind (s ∷ ss) a = numbers_case s ss a (s.actor == a) (numbers_behind ss a)

asks_case :
    (here rest : Bool) (own next : Option Request) (r : Request) →
    (next ≡ Some r → rest ≡ true) →
    cond here own next ≡ Some r →
    (here || rest) ≡ true
asks_case true rest own next r more e = refl
asks_case false rest own next r more e = more e

-- An actor that asks has a script.
pub asks_has : (scripts : List Script) (a : ℕ) (r : Request) → next_by scripts a ≡ Some r → has_script scripts a ≡ true
asks_has [] a r e = absurd (cc e)
asks_has (s ∷ ss) a r e = asks_case (s.actor == a) (has_script ss a) (next_request s.requests) (next_by ss a) r (asks_has ss a r) e

-- Where it stands.
pub record IsAmong (scripts : List Script) (a : ℕ) : Type 0 where
  pub place : ℕ
  pub inside : place < length scripts
  pub is : (d : Script) → (get_or scripts place d).actor ≡ a

among_case :
    (s : Script) (ss : List Script) (a : ℕ) (here : Bool) →
    (s.actor == a) ≡ here →
    (has_script ss a ≡ true → IsAmong ss a) →
    (here || has_script ss a) ≡ true →
    IsAmong (s ∷ ss) a
among_case s ss a true e more has = record { place = zero; inside = omega arith; is = λ d. eqb-true s.actor a e }
among_case s ss a false e more has =
    let rest : IsAmong ss a = more has in
    record { place = suc rest.place; inside = omega (arith, rest.inside); is = λ d. rest.is d }

pub among : (scripts : List Script) (a : ℕ) → has_script scripts a ≡ true → IsAmong scripts a
among [] a has = absurd (cc has)
among (s ∷ ss) a has = among_case s ss a (s.actor == a) refl (among ss a) has

-- ---- different actors

differ_behind : (s : Script) (ss : List Script) → AreOfDifferent (s ∷ ss) → AreOfDifferent ss
differ_behind s ss differ = λ i j d lt inside. differ (suc i) (suc j) d (omega (arith, lt)) (omega (arith, inside))

abbrev IsOwn : List Script → Script → Type 0
IsOwn scripts s = left_by scripts s.actor ≡ s.requests

-- By its number each actor has its own script.
pub own : (scripts : List Script) → AreOfDifferent scripts → All (IsOwn scripts) scripts
own [] differ = All-nil (IsOwn [])
own (s ∷ ss) differ =
    let length_is : length (numbers_of ss) ≡ length ss = length-map ss (λ (t : Script). t.actor) in
    All-cons (IsOwn (s ∷ ss)) s ss
    (cond-true (s.actor == s.actor) s.requests (left_by ss s.actor) (eq-eqb s.actor s.actor refl))
    (λ k d inside.
    let t : Script = get_or ss k d in
    let apart : s.actor ≢ get_or (numbers_of ss) k d.actor = differ zero (suc k) d.actor (omega arith) (omega (arith, inside, length_is)) in
    let no : (s.actor == t.actor) ≡ false = not_same s.actor t.actor (λ same. apart (same ∙ sym (get_or-map (λ (x : Script). x.actor) ss k d))) in
    cond-false (s.actor == t.actor) s.requests (left_by ss t.actor) no ∙ own ss (differ_behind s ss differ) k d inside)

-- ---- nothing left

none_case :
    (asked left : List Request) (rest here : Bool) →
    (rest ≡ true → left ≡ []) →
    (asks_nothing asked && rest) ≡ true →
    cond here asked left ≡ []
none_case [] left rest true more e = refl
none_case [] left rest false more e = more e
none_case (r ∷ rs) left rest here more e = absurd (cc e)

pub done_none : (scripts : List Script) → are_done scripts ≡ true → (a : ℕ) → left_by scripts a ≡ []
done_none [] e a = refl
done_none (s ∷ ss) e a = none_case s.requests (left_by ss a) (are_done ss) (s.actor == a) (λ rest. done_none ss rest a) e

abbrev AsksNothing : Script → Type 0
AsksNothing s = s.requests ≡ []

pub all_done : (scripts : List Script) → All AsksNothing scripts → are_done scripts ≡ true
all_done [] none = refl
all_done (s ∷ ss) none =
    ap (λ asked. asks_nothing asked && are_done ss) (All-head AsksNothing s ss none) ∙ all_done ss (All-tail AsksNothing s ss none)
