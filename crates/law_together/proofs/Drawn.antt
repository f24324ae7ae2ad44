-- What actors made, each with the numbers that were drawn, merges to all entries in the order of their numbers.
use Rattle.std.proofs.Common.{◌≡◌, ◌≢◌, ℕ, zero, suc, ◌+◌, ◌==◌, ◌<◌, ◌≤◌, ◌⊎◌, inl, inr, Bool, cond, List, [], ◌∷◌, ◌++◌, length, map, get_or, All, AllPairs, Contains, refl, sym, ◌∙◌, ap, subst, arith, add-zero}
use mathlib.Core.Option.{some}
use lib.ListN.{get_elem?}
use Rattle.std.proofs.lemmas.Bool.{cases_eq, eq-eqb, ne_eqb}
use Rattle.std.proofs.lemmas.List.{get_or-map, length-map, map-append, same_lists}
use Rattle.std.proofs.lemmas.List.Elements.{All-map}
use Rattle.std.proofs.lemmas.List.FromFn.{get_or-range_with_len, length-range_with_len}
use Rattle.fc_entry.specs.declared.entry.Entry.{Entry}
use Rattle.fc_merge.proofs.Left.{count-cons, count_at, left_numbered, left_own, one_at, taken_length}
use Rattle.fc_merge.proofs.Steps.{Found, IsNotNext, find, none_left, nothing_left}
use Rattle.fc_legal.specs.Scripts.{Script}
use Rattle.fc_merge.specs.Merging.{AreNumbered, AreOwn, IsMerged, IsOwn, Own, all_of}
use Rattle.fc_scripts.specs.Ways.{AreOfDifferent, numbers_of}
use Rattle.fc_shares.specs.Law.{numbered}
use Rattle.fc_yard.proofs.Places.{within}
use Rattle.fc_yard.specs.Lists.{AllStand, bit, once_below, times}
use Rattle.law_together.specs.Law.{MergeLaw}
use Rattle.law_together.specs.Making.{AreDrawn, AreMakings, IsMaking, Making, all_made, own_of, with_number}

-- ---- which numbers were drawn

not_below : (x n : ℕ) → n ≤ x → once_below x n ≡ 0
not_below x zero h = refl
not_below x (suc n) h =
    let off : bit (x == n) ≡ 0 = ap bit (ne_eqb x n (λ same. absurd (omega (arith, same, h)))) in
    omega (arith, off, not_below x n (omega (arith, h)))

below_once : (x n : ℕ) → x < n → once_below x n ≡ 1
below_once x zero h = absurd (omega (arith, h))
below_once x (suc n) h = by_last (λ less. below_once x n less) (cases_eq x n)
  where
    by_last : (x < n → once_below x n ≡ 1) → (x ≡ n) ⊎ (x ≡ n → ⊥) → once_below x (suc n) ≡ 1
    by_last rest (inl same) =
        let on : bit (x == n) ≡ 1 = ap bit (eq-eqb x n same) in
        omega (arith, on, not_below x n (omega (arith, same)))
    by_last rest (inr differ) =
        let off : bit (x == n) ≡ 0 = ap bit (ne_eqb x n differ) in
        let apart : x ≢ n = differ in
        omega (arith, off, rest (omega (arith, h, apart)))

either_way : (a b : ℕ) → (a == b) ≡ (b == a)
either_way a b = by_case (cases_eq a b)
  where
    by_case : (a ≡ b) ⊎ (a ≡ b → ⊥) → (a == b) ≡ (b == a)
    by_case (inl same) = eq-eqb a b same ∙ sym (eq-eqb b a (sym same))
    by_case (inr differ) = ne_eqb a b differ ∙ sym (ne_eqb b a (λ same. differ (sym same)))

count_times : (n : ℕ) (made : List (ℕ × Entry)) → count_at n (map with_number made) ≡ times n made
count_times n [] = refl
count_times n (m ∷ ms) =
    let one : one_at n (with_number m) ≡ bit (n == m.0) = ap (λ (b : Bool). cond b 1 0) (either_way m.0 n) in
    omega (arith, count-cons n (with_number m) (map with_number ms), one, count_times n ms)

all_of_made : (makings : List Making) → all_of (map own_of makings) ≡ map with_number (all_made makings)
all_of_made [] = refl
all_of_made (m ∷ ms) =
    ap (λ (es : List Entry). map with_number m.made ++ es) (all_of_made ms) ∙ sym (map-append with_number m.made (all_made ms))

-- ---- where an entry stands

module _ (first : ℕ) (es : List Entry) where
  stands : (made : List (ℕ × Entry)) → AllStand first es made → (k : ℕ) (d : ℕ × Entry) → k < length made →
      (i : ℕ) × ((get_or made k d).0 ≡ first + i) × (get_elem? es i ≡ some (get_or made k d).1)
  stands [] h k d inside = absurd (omega (arith, inside))
  stands (m ∷ ms) h zero d inside = h.0
  stands (m ∷ ms) h (suc k) d inside = stands ms h.1 k d (omega (arith, inside))

at_place : (es : List Entry) (i : ℕ) (e d : Entry) → get_elem? es i ≡ some e → get_or es i d ≡ e
at_place [] i e d is = absurd (cc is)
at_place (x ∷ xs) zero e d is = cc is
at_place (x ∷ xs) (suc i) e d is = at_place xs i e d is

-- An entry is the one at its number's place, with its number.
record IsFrom (first : ℕ) (es : List Entry) (e : Entry) : Type 0 where
  pub place : ℕ
  pub inside : place < length es
  pub number : e.number ≡ first + place
  pub is : (d : Entry) → e ≡ record (get_or es place d) { number = first + place }

from_made : (first : ℕ) (es : List Entry) (made : List (ℕ × Entry)) (e : Entry) → AllStand first es made → Contains (map with_number made) e → IsFrom first es e
from_made first es made e stand at =
    let d : ℕ × Entry = (0, e) in
    let in_made : at.0 < length made = omega (arith, at.1, length-map made with_number) in
    let m : ℕ × Entry = get_or made at.0 d in
    let is : e ≡ with_number m = sym at.2 ∙ get_or-map with_number made at.0 d e in_made in
    let there : (i : ℕ) × (m.0 ≡ first + i) × (get_elem? es i ≡ some m.1) = stands first es made stand at.0 d in_made in
    record {
      place = there.0;
      inside = within es there.0 m.1 there.2;
      number = ap (λ (x : Entry). x.number) is ∙ there.1;
      is = λ d'.
          is
          ∙ ap (λ n. record m.1 { number = n }) there.1
          ∙ ap (λ (x : Entry). record x { number = first + there.0 }) (sym (at_place es there.0 m.1 d' there.2));
    }

module _ (first : ℕ) (es : List Entry) (makings : List Making) (drawn : AreDrawn first es (all_made makings)) where
  from_lists : (e : Entry) → Contains (all_of (map own_of makings)) e → IsFrom first es e
  from_lists e at =
      let P : List Entry → Type 0 = λ xs. Contains xs e in
      from_made first es (all_made makings) e drawn.stand (subst P (all_of_made makings) at)

  are_numbered : AreNumbered first (length es) (map own_of makings)
  are_numbered =
      record {
        once = λ n from below.
            ap (count_at n) (all_of_made makings)
            ∙ count_times n (all_made makings)
            ∙ omega (arith, drawn.numbers n, not_below n first from, below_once n (first + length es) below);
        none = λ e at.
            let f : IsFrom first es e = from_lists e at in
            (omega (arith, f.number), omega (arith, f.number, f.inside));
      }

-- ---- the lists are those of their actors

own_made : (m : Making) → IsMaking m → IsOwn (own_of m)
own_made m h = (
  All-map (λ (e : Entry). e.actor ≡ m.actor) with_number m.made h.0,
  λ i j d lt inside.
      let a : ℕ × Entry = (0, d) in
      let j_in : j < length m.made = omega (arith, inside, length-map m.made with_number) in
      let one : (get_or (map with_number m.made) i d).number ≡ (get_or m.made i a).0 = ap (λ (e : Entry). e.number) (get_or-map with_number m.made i a d (omega (arith, lt, j_in))) in
      let other : (get_or (map with_number m.made) j d).number ≡ (get_or m.made j a).0 = ap (λ (e : Entry). e.number) (get_or-map with_number m.made j a d j_in) in
      let less : (get_or m.made i a).0 < (get_or m.made j a).0 = h.1 i j a lt j_in in
      omega (arith, one, other, less),
)

are_own : (makings : List Making) → AreMakings makings → AreOwn (map own_of makings)
are_own makings h = (
  All-map IsOwn own_of makings (λ k d inside. own_made (get_or makings k d) (h.0 k d inside)),
  λ i j d lt inside same.
      let a : Making = record { actor = d.actor; made = [] } in
      let j_in : j < length makings = omega (arith, inside, length-map makings own_of) in
      let actor : Own → ℕ = λ o. o.actor in
      h.1 i j a lt j_in
      (ap actor (sym (get_or-map own_of makings i a d (omega (arith, lt, j_in)))) ∙ same ∙ ap actor (get_or-map own_of makings j a d j_in)),
)

are_different : (makings : List Making) (scripts : List Script) → map (λ (m : Making). m.actor) makings ≡ numbers_of scripts → AreOfDifferent scripts →
    AllPairs (λ (a b : Making). a.actor ≢ b.actor) makings
are_different makings scripts is differ = λ i j d lt inside same.
    let actor : Making → ℕ = λ m. m.actor in
    let Differ : List ℕ → Type 0 = λ numbers. AllPairs (λ one other. one ≢ other) numbers in
    subst Differ (sym is) differ i j d.actor lt (omega (arith, inside, length-map makings actor))
    (get_or-map actor makings i d d.actor (omega (arith, lt, inside)) ∙ same ∙ sym (get_or-map actor makings j d d.actor inside))

-- ---- how many there are

length_numbered_lists : (c n : ℕ) (lists : List Own) → AreNumbered n c lists → AreOwn lists → length (all_of lists) ≡ c
length_numbered_lists zero n lists h own = ap (λ (es : List Entry). length es) (nothing_left n lists h)
length_numbered_lists (suc c) n lists h own =
    by_next (λ (f : Found n lists). length_numbered_lists c (suc n) f.next (left_numbered n c lists f.next f.entry f.taken h) (left_own n lists f.next f.entry f.taken own)) (find n lists)
  where
    by_next : ((f : Found n lists) → length (all_of f.next) ≡ c) → Found n lists ⊎ All (IsNotNext n) lists → length (all_of lists) ≡ suc c
    by_next rest (inl f) = omega (arith, taken_length n lists f.next f.entry f.taken, rest f)
    by_next rest (inr none) =
        let zero_left : suc c ≡ 0 = none_left n (suc c) lists h own none in
        absurd (omega (arith, zero_left))

-- ---- in the order of their numbers

length-numbered : (n : ℕ) (es : List Entry) → length (numbered n es) ≡ length es
length-numbered n [] = refl
length-numbered n (e ∷ es) = ap (λ k. suc k) (length-numbered (suc n) es)

numbered_at : (n k : ℕ) (es : List Entry) (d d' : Entry) → k < length es → get_or (numbered n es) k d ≡ record (get_or es k d') { number = n + k }
numbered_at n k [] d d' inside = absurd (omega (arith, inside))
numbered_at n zero (e ∷ es) d d' inside = ap (λ m. record e { number = m }) (sym (add-zero n))
numbered_at n (suc k) (e ∷ es) d d' inside =
    let further : suc n + k ≡ n + suc k = omega arith in
    numbered_at (suc n) k es d d' (omega (arith, inside)) ∙ ap (λ m. record (get_or es k d') { number = m }) further

merged_is : (first : ℕ) (es merged : List Entry) (makings : List Making) → AreMakings makings → AreDrawn first es (all_made makings) →
    IsMerged first (length (all_of (map own_of makings))) (map own_of makings) merged → merged ≡ numbered first es
merged_is first es merged makings h drawn m =
    let lists : List Own = map own_of makings in
    let Number : Entry → ℕ = λ e. e.number in
    let count : length (all_of lists) ≡ length es = length_numbered_lists (length es) first lists (are_numbered first es makings drawn) (are_own makings h) in
    let total : length (map Number merged) ≡ length (all_of lists) = ap (λ (ns : List ℕ). length ns) m.numbers ∙ length-range_with_len first (length (all_of lists)) in
    let long : length merged ≡ length es = omega (arith, count, total, length-map merged Number) in
    same_lists merged (numbered first es) (long ∙ sym (length-numbered first es))
    (λ k d inside.
    let in_es : k < length es = omega (arith, inside, long) in
    let f : IsFrom first es (get_or merged k d) = from_lists first es makings drawn (get_or merged k d) (m.of_lists k d inside) in
    let number : (get_or merged k d).number ≡ first + k =
    sym (get_or-map Number merged k d 0 inside)
    ∙ ap (λ (ns : List ℕ). get_or ns k 0) m.numbers
    ∙ get_or-range_with_len first (length (all_of lists)) k 0 (omega (arith, in_es, count)) in
    let at : f.place ≡ k = omega (arith, f.number, number) in
    f.is d
    ∙ ap (λ i. record (get_or es i d) { number = first + i }) at
    ∙ sym (numbered_at first k es d d in_es))

pub merge_law_holds : MergeLaw
merge_law_holds = record {
  differ = are_different;
  own = are_own;
  numbers = λ first es makings drawn. are_numbered first es makings drawn;
  merged = merged_is;
}
