-- What is left of the lists when an entry is taken.
use Rattle.std.proofs.Common.{◌≡◌, ◌≢◌, ℕ, zero, suc, ◌+◌, ◌==◌, ◌<◌, ◌≤◌, ◌⊎◌, inl, inr, cond, List, ◌∷◌, ◌++◌, length, get_or, All, AllPairs, Contains, refl, sym, ◌∙◌, ap, subst, arith}
use Rattle.std.specs.List.{count_by}
use Rattle.std.proofs.lemmas.Bool.{cond-true, cond-false, eq-eqb, ne_eqb}
use Rattle.std.proofs.lemmas.List.{length-append}
use Rattle.std.proofs.lemmas.List.Elements.{All-cons, All-head, All-tail, Contains-append_left, Contains-append_right, Contains-append_cases}
use Rattle.std.proofs.lemmas.List.Sums.{get_or-le-sum_by, sum_by-append, sum_by-cons}
use Rattle.fc_entry.specs.declared.entry.Entry.{Entry}
use Rattle.fc_merge.specs.Merging.{AreNumbered, AreOwn, IsOwn, Own, all_of}
use Rattle.fc_merge.specs.Taking.{Takes, here, there}

-- How many entries have this number.
abbrev pub one_at : ℕ → Entry → ℕ
one_at m e = cond (e.number == m) 1 0

abbrev pub count_at : ℕ → List Entry → ℕ
count_at m es = count_by (λ (e : Entry). e.number == m) es

pub count-cons : (m : ℕ) (e : Entry) (es : List Entry) → count_at m (e ∷ es) ≡ one_at m e + count_at m es
count-cons m e es = sum_by-cons (one_at m) e es

pub count-append : (m : ℕ) (xs ys : List Entry) → count_at m (xs ++ ys) ≡ count_at m xs + count_at m ys
count-append m xs ys = sum_by-append (one_at m) xs ys

-- Of an entry that is there, the number counts.
pub counts_there : (m : ℕ) (es : List Entry) (e : Entry) → Contains es e → e.number ≡ m → 1 ≤ count_at m es
counts_there m es e there' is =
    let at : get_or es there'.0 e ≡ e = there'.2 in
    let one : one_at m (get_or es there'.0 e) ≡ 1 = ap (one_at m) at ∙ cond-true (e.number == m) 1 0 (eq-eqb e.number m is) in
    omega (arith, one, get_or-le-sum_by (one_at m) es there'.0 e there'.1)

-- ---- an entry is taken

pub taken_number : (n : ℕ) (old new : List Own) (e : Entry) → Takes n old e new → e.number ≡ n
taken_number n old new e (here is number) = number
taken_number n old new e (there {lists = lists} {next = next} t) = taken_number n lists next e t

pub taken_count : (n m : ℕ) (old new : List Own) (e : Entry) → Takes n old e new → count_at m (all_of old) ≡ one_at m e + count_at m (all_of new)
taken_count n m old new e (here {own = own} {rest = rest} {lists = lists} is number) =
    ap (λ es. count_at m (es ++ all_of lists)) is ∙ count-cons m e (rest ++ all_of lists)
taken_count n m old new e (there {own = own} {lists = lists} {next = next} t) =
    let before : count_at m (own.entries ++ all_of lists) ≡ count_at m own.entries + count_at m (all_of lists) = count-append m own.entries (all_of lists) in
    let after : count_at m (own.entries ++ all_of next) ≡ count_at m own.entries + count_at m (all_of next) = count-append m own.entries (all_of next) in
    let rest : count_at m (all_of lists) ≡ one_at m e + count_at m (all_of next) = taken_count n m lists next e t in
    omega (arith, before, after, rest)

pub taken_length : (n : ℕ) (old new : List Own) (e : Entry) → Takes n old e new → length (all_of old) ≡ suc (length (all_of new))
taken_length n old new e (here {rest = rest} {lists = lists} is number) = ap (λ es. length (es ++ all_of lists)) is
taken_length n old new e (there {own = own} {lists = lists} {next = next} t) =
    omega (arith, length-append own.entries (all_of lists), length-append own.entries (all_of next), taken_length n lists next e t)

behind : (e : Entry) (es : List Entry) (x : Entry) → Contains es x → Contains (e ∷ es) x
behind e es x at = (suc at.0, omega (arith, at.1), at.2)

-- It was there.
pub taken_there : (n : ℕ) (old new : List Own) (e : Entry) → Takes n old e new → Contains (all_of old) e
taken_there n old new e (here {own = own} {rest = rest} {lists = lists} is number) =
    let P : List Entry → Type 0 = λ es. Contains (es ++ all_of lists) e in
    let first : Contains (e ∷ (rest ++ all_of lists)) e = (zero, omega arith, refl) in
    subst P (sym is) first
taken_there n old new e (there {own = own} {lists = lists} {next = next} t) =
    Contains-append_right own.entries (all_of lists) e (taken_there n lists next e t)

-- What is left was there.
pub left_there : (n : ℕ) (old new : List Own) (e x : Entry) → Takes n old e new → Contains (all_of new) x → Contains (all_of old) x
left_there n old new e x (here {own = own} {rest = rest} {lists = lists} is number) at =
    let P : List Entry → Type 0 = λ es. Contains (es ++ all_of lists) x in
    subst P (sym is) (behind e (rest ++ all_of lists) x at)
left_there n old new e x (there {own = own} {lists = lists} {next = next} t) at =
    by_side (λ others. left_there n lists next e x t others) (Contains-append_cases own.entries (all_of next) x at)
  where
    by_side : (Contains (all_of next) x → Contains (all_of lists) x) → Contains own.entries x ⊎ Contains (all_of next) x → Contains (own.entries ++ all_of lists) x
    by_side behind' (inl mine) = Contains-append_left own.entries (all_of lists) x mine
    by_side behind' (inr others) = Contains-append_right own.entries (all_of lists) x (behind' others)

-- ---- the lists stay those of their actors

pub same_length : (n : ℕ) (old new : List Own) (e : Entry) → Takes n old e new → length new ≡ length old
same_length n old new e (here is number) = refl
same_length n old new e (there {lists = lists} {next = next} t) = ap (λ k. suc k) (same_length n lists next e t)

pub same_actor : (n : ℕ) (old new : List Own) (e : Entry) → Takes n old e new → (k : ℕ) (d : Own) → (get_or old k d).actor ≡ (get_or new k d).actor
same_actor n old new e (here is number) zero d = refl
same_actor n old new e (here is number) (suc k) d = refl
same_actor n old new e (there t) zero d = refl
same_actor n old new e (there {lists = lists} {next = next} t) (suc k) d = same_actor n lists next e t k d

pub is_own : (own : Own) (e : Entry) (rest : List Entry) → own.entries ≡ e ∷ rest → IsOwn own → (e.actor ≡ own.actor) × IsOwn (record own { entries = rest })
is_own own e rest is h =
    let P : List Entry → Type 0 = λ es. All (λ (x : Entry). x.actor ≡ own.actor) es × AllPairs (λ (a b : Entry). a.number < b.number) es in
    let all : P (e ∷ rest) = subst P is h in
    let Mine : Entry → Type 0 = λ x. x.actor ≡ own.actor in
    (All-head Mine e rest all.0, (All-tail Mine e rest all.0, λ i j d lt inside. all.1 (suc i) (suc j) d (omega (arith, lt)) (omega (arith, inside))))

each_own : (n : ℕ) (old new : List Own) (e : Entry) → Takes n old e new → All IsOwn old → All IsOwn new
each_own n old new e (here {own = own} {rest = rest} {lists = lists} is number) h =
    All-cons IsOwn (record own { entries = rest }) lists (is_own own e rest is (All-head IsOwn own lists h)).1 (All-tail IsOwn own lists h)
each_own n old new e (there {own = own} {lists = lists} {next = next} t) h =
    All-cons IsOwn own next (All-head IsOwn own lists h) (each_own n lists next e t (All-tail IsOwn own lists h))

pub left_own : (n : ℕ) (old new : List Own) (e : Entry) → Takes n old e new → AreOwn old → AreOwn new
left_own n old new e t h = (
  each_own n old new e t h.0,
  λ i j d lt inside same.
      h.1 i j d lt (omega (arith, inside, same_length n old new e t))
      (same_actor n old new e t i d ∙ same ∙ sym (same_actor n old new e t j d)),
)

-- The numbers that are left are those from the next on.
pub left_numbered : (n c : ℕ) (old new : List Own) (e : Entry) → Takes n old e new → AreNumbered n (suc c) old → AreNumbered (suc n) c new
left_numbered n c old new e t h =
    let is : e.number ≡ n = taken_number n old new e t in
    let own_one : one_at n e ≡ 1 = cond-true (e.number == n) 1 0 (eq-eqb e.number n is) in
    let none_left : count_at n (all_of new) ≡ 0 = omega (arith, own_one, taken_count n n old new e t, h.once n (omega arith) (omega arith)) in
    record {
      once = λ m from below.
          let other : one_at m e ≡ 0 = cond-false (e.number == m) 1 0 (ne_eqb e.number m (λ same. absurd (omega (arith, same, is, from)))) in
          omega (arith, other, taken_count n m old new e t, h.once m (omega (arith, from)) (omega (arith, below)));
      none = λ x at.
          let inside = h.none x (left_there n old new e x t at) in
          let apart : x.number ≢ n = λ same. absurd (omega (arith, none_left, counts_there n (all_of new) x at same)) in
          (omega (arith, inside.0, apart), omega (arith, inside.1));
    }
