-- The grains of a lane, by their places there and by their numbers, and the part of a list by grains.
use Rattle.std.proofs.Common.{◌≡◌, ◌≢◌, ℕ, ◌+◌, ◌-◌, ◌*◌, ◌/◌, ◌%◌, ◌<◌, ◌≤◌, List, length, get_or, set, replicate, sym, ap, ◌∙◌, arith, inl, inr, div-one}
use Rattle.std.proofs.lemmas.Bool.{cases_lt, cases_eq}
use Rattle.std.proofs.lemmas.List.{get_or_default, get_or_past, same_lists, length-replicate, get_or-replicate, length-set, get_or-set_same, get_or-set_other}
use Rattle.std.proofs.lemmas.List.FromFn.{length-map-range_with_len, get_or-map-range_with_len}
use Rattle.std.proofs.lemmas.Nat.{mul-le, le-div, div-add-mod', div-mul-add, mod-mul-add}
use Rattle.fc_base.specs.declared.size.GrainSize.{GrainSize}
use Rattle.fc_legal.specs.Whole.{part, single_lane}
use Rattle.fc_rules.specs.LaneTold.{LaneOf, place_of, number_at, grains_in}

-- ---- plain numbers

row_more : (p n : ℕ) → (p + 1) * n ≡ p * n + n
row_more p n = grind arith

inside_from : (i n p x : ℕ) → i < n → p < (x + n - 1 - i) / n → p * n + i < x
inside_from i n p x lt h =
    let a : (p + 1) * n ≤ (x + n - 1 - i) / n * n = mul-le (p + 1) n ((x + n - 1 - i) / n) n (omega arith) (omega arith) in
    let b : (x + n - 1 - i) / n * n + (x + n - 1 - i) % n ≡ x + n - 1 - i = div-add-mod' (x + n - 1 - i) n in
    let c : (p + 1) * n ≡ p * n + n = row_more p n in
    omega arith

inside_to : (i n p x : ℕ) → i < n → p * n + i < x → p < (x + n - 1 - i) / n
inside_to i n p x lt h =
    let c : (p + 1) * n ≡ p * n + n = row_more p n in
    let a : p + 1 ≤ (x + n - 1 - i) / n = le-div (p + 1) (x + n - 1 - i) n (omega arith) (omega arith) in
    omega arith

-- ---- lanes

-- A lane's number is below how many there are.
abbrev pub IsLane : LaneOf → Type 0
IsLane l = l.lane < l.lanes

-- A grain of the lane.
abbrev pub IsOf : LaneOf → ℕ → Type 0
IsOf l number = number % l.lanes ≡ l.lane

pub number_below : (l : LaneOf) → IsLane l → (p grains : ℕ) → p < grains_in l grains → number_at l p < grains
number_below l i p grains h = inside_from l.lane l.lanes p grains i h

pub place_below : (l : LaneOf) → IsLane l → (p grains : ℕ) → number_at l p < grains → p < grains_in l grains
place_below l i p grains h = inside_to l.lane l.lanes p grains i h

pub of_same : (l : LaneOf) (x number : ℕ) → x ≡ number → IsOf l number → IsOf l x
of_same l x number e is_of = ap (λ z. z % l.lanes) e ∙ is_of

-- the number at the place of a grain of the lane
pub number_of_place : (l : LaneOf) (number : ℕ) → IsOf l number → number_at l (place_of l number) ≡ number
number_of_place l number e = ap (λ z. number / l.lanes * l.lanes + z) (sym e) ∙ div-add-mod' number l.lanes

pub place_of_number : (l : LaneOf) → IsLane l → (p : ℕ) → place_of l (number_at l p) ≡ p
place_of_number l i p = div-mul-add p l.lanes l.lane i

pub number_is_of : (l : LaneOf) → IsLane l → (p : ℕ) → IsOf l (number_at l p)
number_is_of l i p = mod-mul-add p l.lanes l.lane i

pub grain_below : (l : LaneOf) → IsLane l → (number grains : ℕ) → IsOf l number → number < grains → place_of l number < grains_in l grains
grain_below l i number grains e h =
    let n : number_at l (place_of l number) ≡ number = number_of_place l number e in
    place_below l i (place_of l number) grains (omega arith)

pub none_in : (l : LaneOf) → IsLane l → grains_in l 0 ≡ 0
none_in l i =
    elim (cases_lt 0 (grains_in l 0)) [
      | inl lt ↦ absurd (let b : number_at l 0 < 0 = number_below l i 0 0 lt in omega arith)
      | inr le ↦ omega arith
    ]

-- ---- the lane of all grains

pub all_place : (grain : GrainSize) (number : ℕ) → place_of (single_lane grain) number ≡ number
all_place grain number = div-one number

-- ---- the part of a list

pub part_length : {X : Type 0} → (l : LaneOf) (d : X) (xs : List X) → length (part l d xs) ≡ grains_in l (length xs)
part_length l d xs = length-map-range_with_len (λ g. get_or xs (number_at l g) d) 0 (grains_in l (length xs))

pub part_at : {X : Type 0} → (l : LaneOf) → IsLane l → (d : X) (xs : List X) (p : ℕ) (e : X) → get_or (part l d xs) p e ≡ get_or xs (number_at l p) e
part_at l i d xs p e =
    let n : length (part l d xs) ≡ grains_in l (length xs) = part_length l d xs in
    elim (cases_lt p (grains_in l (length xs))) [
      | inl lt ↦ get_or-map-range_with_len (λ g. get_or xs (number_at l g) d) 0 (grains_in l (length xs)) p p e lt (omega arith)
          ∙ get_or_default xs (number_at l p) d e (number_below l i p (length xs) lt)
      | inr le ↦ get_or_past (part l d xs) p e (omega arith)
          ∙ sym (get_or_past xs (number_at l p) e (elim (cases_lt (number_at l p) (length xs)) [
            | inl lt ↦ absurd (let b : p < grains_in l (length xs) = place_below l i p (length xs) lt in omega arith)
            | inr past ↦ past
          ]))
    ]

-- at the place of a grain of the lane
pub part_at_grain : {X : Type 0} → (l : LaneOf) → IsLane l → (d : X) (xs : List X) (number : ℕ) (e : X) → IsOf l number → get_or (part l d xs) (place_of l number) e ≡ get_or xs number e
part_at_grain l i d xs number e is_of = part_at l i d xs (place_of l number) e ∙ ap (λ z. get_or xs z e) (number_of_place l number is_of)

-- a list is the part of another by its length and its elements
pub is_part : {X : Type 0} → (l : LaneOf) → IsLane l → (d : X) (xs ys : List X) → length ys ≡ grains_in l (length xs) → ((p : ℕ) (e : X) → p < length ys → get_or ys p e ≡ get_or xs (number_at l p) e) → ys ≡ part l d xs
is_part l i d xs ys n at =
    let m : length (part l d xs) ≡ grains_in l (length xs) = part_length l d xs in
    same_lists ys (part l d xs) (n ∙ sym m) (λ p e lt. at p e lt ∙ sym (part_at l i d xs p e))

pub part_replicate : {X : Type 0} → (l : LaneOf) → IsLane l → (d : X) (grains : ℕ) (x : X) → replicate (grains_in l grains) x ≡ part l d (replicate grains x)
part_replicate l i d grains x =
    let m : length (replicate (grains_in l grains) x) ≡ grains_in l grains = length-replicate (grains_in l grains) x in
    is_part l i d (replicate grains x) (replicate (grains_in l grains) x)
    (m ∙ ap (grains_in l) (sym (length-replicate grains x)))
    (λ p e lt. get_or-replicate (grains_in l grains) p x e (omega arith) ∙ sym (get_or-replicate grains (number_at l p) x e (number_below l i p grains (omega arith))))

-- a change at a grain of the lane, and at another grain
pub part_set : {X : Type 0} → (l : LaneOf) → IsLane l → (d : X) (xs : List X) (number : ℕ) (x : X) → IsOf l number → set (part l d xs) (place_of l number) x ≡ part l d (set xs number x)
part_set l i d xs number x is_of =
    let m : length (set (part l d xs) (place_of l number) x) ≡ length (part l d xs) = length-set (part l d xs) (place_of l number) x in
    let n : length (part l d xs) ≡ grains_in l (length xs) = part_length l d xs in
    is_part l i d (set xs number x) (set (part l d xs) (place_of l number) x)
    (m ∙ (n ∙ ap (grains_in l) (sym (length-set xs number x))))
    (λ p e lt. elim (cases_eq p (place_of l number)) [
      | inl same ↦ (let same_number : number_at l p ≡ number = ap (number_at l) same ∙ number_of_place l number is_of in
          ap (λ z. get_or (set (part l d xs) (place_of l number) x) z e) same
          ∙ (get_or-set_same (part l d xs) (place_of l number) x e (omega arith)
          ∙ sym (ap (λ z. get_or (set xs number x) z e) same_number ∙ get_or-set_same xs number x e (let b : number_at l p < length xs = number_below l i p (length xs) (omega arith) in omega arith))))
      | inr other ↦ get_or-set_other (part l d xs) (place_of l number) p x e other
          ∙ (part_at l i d xs p e
          ∙ sym (get_or-set_other xs number (number_at l p) x e (λ q. other (sym (place_of_number l i p) ∙ ap (place_of l) q))))
    ])

pub part_set_other : {X : Type 0} → (l : LaneOf) → IsLane l → (d : X) (xs : List X) (number : ℕ) (x : X) → number % l.lanes ≢ l.lane → part l d xs ≡ part l d (set xs number x)
part_set_other l i d xs number x other =
    is_part l i d (set xs number x) (part l d xs)
    (part_length l d xs ∙ ap (grains_in l) (sym (length-set xs number x)))
    (λ p e lt. part_at l i d xs p e ∙ sym (get_or-set_other xs number (number_at l p) x e (λ q. other (ap (λ z. z % l.lanes) (sym q) ∙ number_is_of l i p))))
