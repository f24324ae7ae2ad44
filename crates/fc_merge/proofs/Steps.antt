-- The next number is first in a list; and so all entries can be taken.
use Rattle.std.proofs.Common.{◌≡◌, ◌≢◌, ℕ, ltb, Option, Some, None, zero, suc, ◌==◌, ◌<◌, ◌≤◌, ◌⊎◌, inl, inr, Bool, true, false, cond, List, [], ◌∷◌, length, get_or, set, All, AllPairs, Contains, refl, sym, ◌∙◌, ap, subst, arith}
use Rattle.std.proofs.lemmas.Bool.{cond-false, eqb-true, eqb-false, false≢true, ltb-false, ne_eqb}
use Rattle.std.proofs.lemmas.List.Elements.{All-cons, All-head, All-nil, All-tail, Contains-append_left, Contains-append_right, Contains-get_or}
use Rattle.std.specs.List.{position, position_or_len}
use Rattle.std.proofs.lemmas.List.Quantifiers.{position-Some}
use Rattle.std.proofs.lemmas.List.Sums.{fails_before_first}
use Rattle.fc_entry.specs.declared.entry.Entry.{Entry}
use Rattle.fc_merge.proofs.Left.{count-append, count-cons, count_at, left_numbered, left_own, one_at}
use Rattle.fc_merge.specs.Merging.{AreNumbered, AreOwn, IsOwn, Own, all_of}
use Rattle.fc_merge.specs.Taking.{Merges, Takes, ends, here, is_next, takes, there}

-- ---- in a list that it isn't first in, the next number isn't at all

none_above : (n : ℕ) (es : List Entry) → All (λ (e : Entry). n < e.number) es → count_at n es ≡ 0
none_above n [] above = refl
none_above n (e ∷ es) above =
    let Above : Entry → Type 0 = λ x. n < x.number in
    let here' : n < e.number = All-head Above e es above in
    let not : one_at n e ≡ 0 = cond-false (e.number == n) 1 0 (ne_eqb e.number n (λ same. absurd (omega (arith, same, here')))) in
    omega (arith, count-cons n e es, not, none_above n es (All-tail Above e es above))

pub none_first : (n : ℕ) (es : List Entry) → is_next n es ≡ false → All (λ (e : Entry). n ≤ e.number) es → AllPairs (λ (a b : Entry). a.number < b.number) es → count_at n es ≡ 0
none_first n [] not from rises = refl
none_first n (e ∷ es) not from rises =
    let From : Entry → Type 0 = λ x. n ≤ x.number in
    let at_least : n ≤ e.number = All-head From e es from in
    let apart : e.number ≢ n = λ same. eqb-false e.number n not same in
    let zero_here : one_at n e ≡ 0 = cond-false (e.number == n) 1 0 not in
    let above : All (λ (x : Entry). n < x.number) es = λ k d inside.
    let less : e.number < (get_or es k d).number = rises zero (suc k) d (omega arith) (omega (arith, inside)) in
    omega (arith, less, at_least) in
    omega (arith, count-cons n e es, zero_here, none_above n es above)

abbrev pub IsNotNext : ℕ → Own → Type 0
IsNotNext n own = is_next n own.entries ≡ false

pub none_next : (n : ℕ) (lists : List Own) → All (IsNotNext n) lists → All IsOwn lists → ((e : Entry) → Contains (all_of lists) e → n ≤ e.number) → count_at n (all_of lists) ≡ 0
none_next n [] not own from = refl
none_next n (first ∷ lists) not own from =
    let mine : count_at n first.entries ≡ 0 =
    none_first n first.entries (All-head (IsNotNext n) first lists not)
    (λ k d inside. from (get_or first.entries k d) (Contains-append_left first.entries (all_of lists) (get_or first.entries k d) (Contains-get_or first.entries k d inside)))
    (All-head IsOwn first lists own).1 in
    let others : count_at n (all_of lists) ≡ 0 =
    none_next n lists (All-tail (IsNotNext n) first lists not) (All-tail IsOwn first lists own)
    (λ e at. from e (Contains-append_right first.entries (all_of lists) e at)) in
    omega (arith, count-append n first.entries (all_of lists), mine, others)

-- Where it is first in none, there is no next number.
pub none_left : (n c : ℕ) (lists : List Own) → AreNumbered n c lists → AreOwn lists → All (IsNotNext n) lists → c ≡ 0
none_left n zero lists numbered own not = refl
none_left n (suc c) lists numbered own not =
    absurd (omega (arith, none_next n lists not own.0 (λ e at. (numbered.none e at).0), numbered.once n (omega arith) (omega arith)))

pub nothing_left : (n : ℕ) (lists : List Own) → AreNumbered n 0 lists → all_of lists ≡ []
nothing_left n lists numbered = by_first (all_of lists) refl
  where
    by_first : (es : List Entry) → all_of lists ≡ es → all_of lists ≡ []
    by_first [] is = is
    by_first (e ∷ es) is =
        let P : List Entry → Type 0 = λ xs. Contains xs e in
        let there' : Contains (e ∷ es) e = (zero, omega arith, refl) in
        let inside = numbered.none e (subst P (sym is) there') in
        absurd (omega (arith, inside.0, inside.1))

-- ---- the list that it is first in

pub record Found (n : ℕ) (lists : List Own) : Type 0 where
  pub entry : Entry
  pub next : List Own
  pub taken : Takes n lists entry next

behind_found : (n : ℕ) (own : Own) (lists : List Own) → IsNotNext n own → Found n lists ⊎ All (IsNotNext n) lists → Found n (own ∷ lists) ⊎ All (IsNotNext n) (own ∷ lists)
behind_found n own lists not (inl found) = inl (record { entry = found.entry; next = own ∷ found.next; taken = there found.taken })
behind_found n own lists not (inr none) = inr (All-cons (IsNotNext n) own lists not none)

first_found : (n : ℕ) (own : Own) (lists : List Own) (es : List Entry) (is_first : Bool) → own.entries ≡ es → is_next n es ≡ is_first → Found n lists ⊎ All (IsNotNext n) lists → Found n (own ∷ lists) ⊎ All (IsNotNext n) (own ∷ lists)
first_found n own lists [] is_first is test rest = behind_found n own lists (ap (is_next n) is) rest
first_found n own lists (e ∷ es) false is test rest = behind_found n own lists (ap (is_next n) is ∙ test) rest
first_found n own lists (e ∷ es) true is test rest =
    inl (record { entry = e; next = record own { entries = es } ∷ lists; taken = here is (eqb-true e.number n test) })

pub find : (n : ℕ) (lists : List Own) → Found n lists ⊎ All (IsNotNext n) lists
find n [] = inr (All-nil (IsNotNext n))
find n (own ∷ lists) = first_found n own lists own.entries (is_next n own.entries) refl refl (find n lists)

-- The list at this place gives its first entry.
pub taken_at : (n k : ℕ) (lists : List Own) (own : Own) (e : Entry) (rest : List Entry) → k < length lists → get_or lists k own ≡ own → own.entries ≡ e ∷ rest → e.number ≡ n →
    Takes n lists e (set lists k (record own { entries = rest }))
taken_at n k [] own e rest inside at is number = absurd (omega (arith, inside))
taken_at n zero (x ∷ xs) own e rest inside at is number =
    let P : Own → Type 0 = λ y. Takes n (y ∷ xs) e (record own { entries = rest } ∷ xs) in
    subst P (sym at) (here is number)
taken_at n (suc k) (x ∷ xs) own e rest inside at is number = there (taken_at n k xs own e rest (omega (arith, inside)) at is number)

-- The list at this place begins with the next entry, and gives it.
pub gives : (n k : ℕ) (lists : List Own) (own left : Own) (e : Entry) → position (λ (o : Own). is_next n o.entries) lists ≡ Some k → own ≡ get_or lists k own → own ≡ record left { entries = e ∷ left.entries } →
    Takes n lists e (set lists k left)
gives n k lists own left e found at is =
    let whole : Own = record left { entries = e ∷ left.entries } in
    let Test : Own → Bool = λ o. is_next n o.entries in
    let first = position-Some Test lists k own found in
    let At : Own → Type 0 = λ o. get_or lists k o ≡ o in
    let Next : Own → Type 0 = λ o. is_next n o.entries ≡ true in
    let number : (e.number == n) ≡ true = subst Next is (subst Next (sym at) first.1) in
    taken_at n k lists whole e left.entries first.0 (subst At is (sym at)) refl (eqb-true e.number n number)

-- It isn't empty.
pub never_empty : (n k : ℕ) (lists : List Own) (own : Own) → position (λ (o : Own). is_next n o.entries) lists ≡ Some k → own ≡ get_or lists k own → own.entries ≡ [] → ⊥
never_empty n k lists own found at none =
    let first = position-Some (λ (o : Own). is_next n o.entries) lists k own found in
    let Next : Own → Type 0 = λ o. is_next n o.entries ≡ true in
    let next : is_next n own.entries ≡ true = subst Next (sym at) first.1 in
    let not : is_next n own.entries ≡ false = ap (is_next n) none in
    false≢true (sym not ∙ next)

-- Where none begins with it, it is first in none.
pub none_begins : (n : ℕ) (lists : List Own) → position (λ (o : Own). is_next n o.entries) lists ≡ None → All (IsNotNext n) lists
none_begins n lists none =
    let Test : Own → Bool = λ o. is_next n o.entries in
    let place : ℕ = position_or_len Test lists in
    λ k d inside. fails_before_first Test lists k d (omega (arith, inside, ltb-false place (length lists) (past (ltb place (length lists)) place none)))
  where
    past : (below : Bool) (place : ℕ) → ◌≡◌ {A = Option ℕ} (cond below (Some place) None) None → below ≡ false
    past true place e = absurd (cc e)
    past false place e = refl

-- ---- all can be taken

pub record CanMerge (n : ℕ) (lists : List Own) : Type 0 where
  pub merged : List Entry
  pub merges : Merges n lists merged

pub can_merge : (c n : ℕ) (lists : List Own) → AreNumbered n c lists → AreOwn lists → CanMerge n lists
can_merge zero n lists numbered own = record { merged = []; merges = ends (nothing_left n lists numbered) }
can_merge (suc c) n lists numbered own =
    by_next (λ (f : Found n lists). can_merge c (suc n) f.next (left_numbered n c lists f.next f.entry f.taken numbered) (left_own n lists f.next f.entry f.taken own)) (find n lists)
  where
    by_next : ((f : Found n lists) → CanMerge (suc n) f.next) → Found n lists ⊎ All (IsNotNext n) lists → CanMerge n lists
    by_next rest (inl f) = record { merged = f.entry ∷ (rest f).merged; merges = takes f.taken (rest f).merges }
    by_next rest (inr none) =
        let zero_left : suc c ≡ 0 = none_left n (suc c) lists numbered own none in
        absurd (omega (arith, zero_left))
