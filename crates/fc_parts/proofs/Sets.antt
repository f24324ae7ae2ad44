-- Parts of sets of grains.
use mathlib.Core.Path.{fun_ext}
use Rattle.std.proofs.Common.{◌≡◌, ℕ, ◌+◌, ◌-◌, ◌<◌, Bool, false, ◌&&◌, List, ◌++◌, length, get_or, replicate, refl, sym, ap, ap₂, ◌∙◌, arith, inl, inr}
use Rattle.std.proofs.lemmas.Bool.{cases_lt}
use Rattle.std.proofs.lemmas.List.{get_or_default, get_or_past, get_or-take, get_or_append_left, get_or-append_right, get_or-replicate, length-replicate, length-take-le, length-append}
use Rattle.std.proofs.lemmas.List.FromFn.{length-map-range_with_len, get_or-map-range_with_len}
use Rattle.fc_books.specs.After.{of_length}
use Rattle.fc_changed.specs.Notes.{has, grains_with}
use Rattle.fc_legal.specs.Whole.{part}
use Rattle.fc_rules.specs.LaneTold.{LaneOf, number_at, grains_in}
use Rattle.fc_parts.proofs.Numbers.{IsLane, number_below, part_length, part_at, is_part}

-- ---- a set cut or filled to so many grains

size_of : (n : ℕ) (set : List Bool) → length (of_length n set) ≡ n
size_of n set =
    let all : length (set ++ replicate n false) ≡ length set + length (replicate n false) = length-append set (replicate n false) in
    let fill : length (replicate n false) ≡ n = length-replicate n false in
    length-take-le n (set ++ replicate n false) (omega arith)

filled_at : (n : ℕ) (set : List Bool) (p : ℕ) (e : Bool) → p < n → get_or (set ++ replicate n false) p e ≡ get_or set p false
filled_at n set p e lt =
    elim (cases_lt p (length set)) [
      | inl inside ↦ get_or_append_left set (replicate n false) e p inside ∙ get_or_default set p e false inside
      | inr past ↦ get_or-append_right set (replicate n false) (length set) p e refl past
          ∙ (get_or-replicate n (p - length set) false e (omega arith) ∙ sym (get_or_past set p false past))
    ]

bit_of : (n : ℕ) (set : List Bool) (p : ℕ) (e : Bool) → p < n → get_or (of_length n set) p e ≡ get_or set p false
bit_of n set p e lt = get_or-take n (set ++ replicate n false) p e lt ∙ filled_at n set p e lt

pub part_of_length : (l : LaneOf) → IsLane l → (n : ℕ) (set : List Bool) → of_length (grains_in l n) (part l false set) ≡ part l false (of_length n set)
part_of_length l i n set =
    let size : length (of_length (grains_in l n) (part l false set)) ≡ grains_in l n = size_of (grains_in l n) (part l false set) in
    is_part l i false (of_length n set) (of_length (grains_in l n) (part l false set))
    (size ∙ ap (grains_in l) (sym (size_of n set)))
    (λ p e lt. bit_of (grains_in l n) (part l false set) p e (omega arith)
    ∙ (part_at l i false set p false
    ∙ sym (bit_of n set (number_at l p) e (number_below l i p n (omega arith)))))

-- ---- the grains that pass

part_with : (l : LaneOf) → IsLane l → (test : ℕ → Bool) (n : ℕ) → grains_with (λ p. test (number_at l p)) (grains_in l n) ≡ part l false (grains_with test n)
part_with l i test n =
    let size : length (grains_with (λ p. test (number_at l p)) (grains_in l n)) ≡ grains_in l n = length-map-range_with_len (λ p. test (number_at l p)) 0 (grains_in l n) in
    is_part l i false (grains_with test n) (grains_with (λ p. test (number_at l p)) (grains_in l n))
    (size ∙ ap (grains_in l) (sym (length-map-range_with_len test 0 n)))
    (λ p e lt. get_or-map-range_with_len (λ q. test (number_at l q)) 0 (grains_in l n) p p e (omega arith) (omega arith)
    ∙ sym (get_or-map-range_with_len test 0 n (number_at l p) (number_at l p) e (number_below l i p n (omega arith)) (omega arith)))

-- so those that two sets have in common, of the grains of the first
pub part_of_both : (l : LaneOf) → IsLane l → (same held : List Bool) →
    part l false (grains_with (λ g. has same g && has held g) (length same))
    ≡ grains_with (λ p. has (part l false same) p && has (part l false held) p) (length (part l false same))
part_of_both l i same held =
    sym (part_with l i (λ g. has same g && has held g) (length same))
    ∙ ap₂ (λ test n. grains_with test n)
    (fun_ext (λ p. ap₂ (λ a b. a && b) (sym (part_at l i false same p false)) (sym (part_at l i false held p false))))
    (sym (part_length l false same))
