-- The least grain at which background work has something to do is the least of those that the lanes tell.
use Rattle.std.proofs.Common.{◌≡◌, ℕ, zero, suc, ◌+◌, ◌*◌, ◌%◌, ◌<◌, ◌≤◌, Bool, true, false, cond, Option, Some, None, List, [], ◌∷◌, fold, take, length, refl, sym, ap, ap₂, ◌∙◌, subst, arith}
use Rattle.std.specs.Prelude.{nat_lt, is_some, option_map, slice_index_or, IsSome}
use Rattle.std.proofs.lemmas.List.{take_all, take_more}
use Rattle.std.proofs.lemmas.List.Sums.{fold_push}
use Rattle.fc_base.specs.Column.{Column, first_below, needer}
use Rattle.fc_base.specs.Sheet.{Slot, mapping_place}
use Rattle.fc_base.specs.declared.ids.GrainNo.{GrainNo}
use Rattle.fc_base.specs.declared.size.GrainSize.{GrainSize}
use Rattle.fc_legal.specs.Seconds.{filled_by}
use Rattle.fc_legal.specs.Whole.{single_lane}
use Rattle.fc_moves.proofs.Search.{IsFirst, first_some}
use Rattle.fc_parts.proofs.Numbers.{IsLane, number_below, place_below, none_in, number_of_place}
use Rattle.fc_parts.proofs.Views.{parts, slot_parts, held_parts, column_parts, mapping_parts, size_parts}
use Rattle.fc_rules.specs.LaneTold.{LaneOf, number_at, place_of, grains_in}
use Rattle.fc_rules.specs.LaneTurn.{lacks_at, needer_at, grains_of, least_grain}
use Rattle.fc_lanes.specs.Working.{lesser}
use Rattle.fc_sums.specs.Parts.{lane_of}
use Rattle.fc_lanes.proofs.LeastNumbers.{AreCounted, among, lesser_of, first_among_more, first_among_none, first_among_all}

-- ---- what is filled at a grain of a lane

lacks_parts : (l : LaneOf) → IsLane l → (slots : List Slot) (o : Option ℕ) (p : ℕ) → lacks_at (parts l slots) o p ≡ lacks_at slots o (number_at l p)
lacks_parts l i slots None p = refl
lacks_parts l i slots (Some k) p =
    ap₂ (λ live held. cond live (cond held None (Some k)) None)
    (ap (λ (s : Slot). s.is_live) (slot_parts l i slots k))
    (held_parts l i slots k p true)

needer_parts : (l : LaneOf) → IsLane l → (slots : List Slot) (o : Option ℕ) (p : ℕ) → needer_at (parts l slots) o p ≡ needer_at slots o (number_at l p)
needer_parts l i slots None p = refl
needer_parts l i slots (Some k) p = ap (λ (c : Column). needer c k) (column_parts l i slots p)

-- It is what is filled at the grain of all.
pub filled_parts : (cleans : Bool) (l : LaneOf) → IsLane l → (slots : List Slot) (m p : ℕ) → filled_by cleans (parts l slots) m p ≡ filled_by cleans slots m (number_at l p)
filled_parts true l i slots m p = ap (λ o. needer_at (parts l slots) o p) (mapping_parts l i slots m) ∙ needer_parts l i slots (mapping_place slots m) p
filled_parts false l i slots m p = ap (λ o. lacks_at (parts l slots) o p) (mapping_parts l i slots m) ∙ lacks_parts l i slots (mapping_place slots m) p

grains_of_parts : (l : LaneOf) → IsLane l → (slots : List Slot) (o : Option ℕ) → grains_of (parts l slots) o ≡ grains_in l (grains_of slots o)
grains_of_parts l i slots None = sym (none_in l i)
grains_of_parts l i slots (Some k) = size_parts l i slots k

-- ---- the least of a lane

abbrev pub grain_no : ℕ → GrainNo
grain_no g = record { 0 = g }

-- Whether there is something to do at a grain of all.
abbrev pub has_work : Bool → List Slot → ℕ → ℕ → Bool
has_work cleans slots m g = is_some (filled_by cleans slots m g)

abbrev pub bound_of : List Slot → ℕ → ℕ
bound_of slots m = grains_of slots (mapping_place slots m)

mapped : (X Y Z : Type 0) (f : Y → Z) (g : X → Y) (o : Option X) → option_map (λ x. f (g x)) o ≡ option_map f (option_map g o)
mapped X Y Z f g None = refl
mapped X Y Z f g (Some x) = refl

first_same : (p q : ℕ → Bool) (m n : ℕ) → ((k : ℕ) → p k ≡ q k) → m ≡ n → first_below p m ≡ first_below q n
unfolding first_below
first_same p q m n each e = ap (first_below p) e ∙ by n
  where
    by : (n : ℕ) → first_below p n ≡ first_below q n
    by ℕ.zero = refl
    by (ℕ.suc n) = ap₂ (λ o b. elim o [ Some k ↦ Some k | None ↦ cond b (Some n) None ]) (by n) (each n)

pub least_of_lane : (cleans : Bool) (l : LaneOf) → IsLane l → (slots : List Slot) (m : ℕ) →
    least_grain l (parts l slots) (filled_by cleans (parts l slots) m) m
    ≡ option_map grain_no (option_map (λ p. p * l.lanes + l.lane) (first_below (λ p. has_work cleans slots m (p * l.lanes + l.lane)) (grains_in l (bound_of slots m))))
least_of_lane cleans l i slots m =
    ap (option_map (λ p. grain_no (number_at l p)))
    (first_same (λ p. is_some (filled_by cleans (parts l slots) m p)) (λ p. has_work cleans slots m (number_at l p)) (bound_of (parts l slots) m) (grains_in l (bound_of slots m))
    (λ p. ap (λ (o : Option ℕ). is_some o) (filled_parts cleans l i slots m p))
    (ap (grains_of (parts l slots)) (mapping_parts l i slots m) ∙ grains_of_parts l i slots (mapping_place slots m)))
    ∙ mapped ℕ ℕ GrainNo grain_no (number_at l) (first_below (λ p. has_work cleans slots m (number_at l p)) (grains_in l (bound_of slots m)))

-- ---- the least of all lanes

-- Of the grains of the first lanes.
abbrev pub least_among : Bool → List Slot → ℕ → ℕ → ℕ → Option GrainNo
least_among cleans slots m lanes k = option_map grain_no (first_below (among (has_work cleans slots m) lanes k) (bound_of slots m))

lesser_numbers : (a b : Option ℕ) → option_map grain_no (lesser_of a b) ≡ lesser (option_map grain_no a) (option_map grain_no b)
lesser_numbers None b = refl
lesser_numbers (Some a) None = refl
lesser_numbers (Some a) (Some b) = by (nat_lt b a)
  where
    by : (less : Bool) → option_map grain_no (cond less (Some b) (Some a)) ≡ cond less (Some (grain_no b)) (Some (grain_no a))
    by true = refl
    by false = refl

counted : (l : LaneOf) → IsLane l → (bound : ℕ) → AreCounted l.lanes l.lane bound (grains_in l bound)
counted l i bound = record { inside = λ p lt. number_below l i p bound lt; outside = λ p lt. place_below l i p bound lt }

pub least_none : (cleans : Bool) (slots : List Slot) (m lanes : ℕ) → least_among cleans slots m lanes 0 ≡ None
least_none cleans slots m lanes = ap (option_map grain_no) (first_among_none (has_work cleans slots m) lanes (bound_of slots m))

pub least_more : (cleans : Bool) (grain : GrainSize) (slots : List Slot) (m lanes k : ℕ) → k < lanes →
    least_among cleans slots m lanes (k + 1)
    ≡ lesser (least_among cleans slots m lanes k)
    (least_grain (lane_of grain lanes k) (parts (lane_of grain lanes k) slots) (filled_by cleans (parts (lane_of grain lanes k) slots) m) m)
least_more cleans grain slots m lanes k below =
    let l : LaneOf = lane_of grain lanes k in
    let f : ℕ → Bool = has_work cleans slots m in
    let n : ℕ = bound_of slots m in
    ap (option_map grain_no) (first_among_more f lanes k n (grains_in l n) below (counted l below n))
    ∙ (lesser_numbers (first_below (among f lanes k) n) (option_map (λ p. p * lanes + k) (first_below (λ p. f (p * lanes + k)) (grains_in l n)))
    ∙ ap (lesser (least_among cleans slots m lanes k)) (sym (least_of_lane cleans l below slots m)))

pub least_all : (cleans : Bool) (grain : GrainSize) (slots : List Slot) (m lanes : ℕ) → 0 < lanes →
    least_among cleans slots m lanes lanes ≡ least_grain (single_lane grain) slots (filled_by cleans slots m) m
least_all cleans grain slots m lanes some =
    ap (option_map grain_no) (first_among_all (has_work cleans slots m) lanes (bound_of slots m) some)
    ∙ by (first_below (has_work cleans slots m) (bound_of slots m))
  where
    by : (o : Option ℕ) → option_map grain_no o ≡ option_map (λ g. grain_no (number_at (single_lane grain) g)) o
    by None = refl
    by (Some g) = let e : g ≡ g * 1 + 0 = omega arith in ap (λ x. Some (grain_no x)) e

-- The least of the answers of all lanes, one after another.
pub least_folded : {X : Type 0} → (cleans : Bool) (grain : GrainSize) (slots : List Slot) (m : ℕ) (xs : List X) (tells : X → Option GrainNo) → 0 < length xs →
    ((i : ℕ) (d : X) → i < length xs →
    tells (slice_index_or xs i d)
    ≡ least_grain (lane_of grain (length xs) i) (parts (lane_of grain (length xs) i) slots) (filled_by cleans (parts (lane_of grain (length xs) i) slots) m) m) →
    fold (λ least x. lesser least (tells x)) None xs ≡ least_grain (single_lane grain) slots (filled_by cleans slots m) m
least_folded cleans grain slots m [] tells some each = absurd (omega (arith, some))
least_folded {X = X} cleans grain slots m (x ∷ xs) tells some each =
    ap (fold step None) (sym (take_all (length (x ∷ xs)) (x ∷ xs) (omega arith)))
    ∙ (upto (length (x ∷ xs)) (omega arith)
    ∙ least_all cleans grain slots m (length (x ∷ xs)) some)
  where
    step : Option GrainNo → X → Option GrainNo
    step least y = lesser least (tells y)

    upto : (i : ℕ) → i ≤ length (x ∷ xs) → fold step None (take i (x ∷ xs)) ≡ least_among cleans slots m (length (x ∷ xs)) i
    upto zero le = sym (least_none cleans slots m (length (x ∷ xs)))
    upto (suc i) le =
        let next : suc i ≡ i + 1 = omega arith in
        let lt : i < length (x ∷ xs) = omega (arith, le) in
        let here : Option GrainNo = tells (slice_index_or (x ∷ xs) i x) in
        ap (λ k. fold step None (take k (x ∷ xs))) next
        ∙ (ap (fold step None) (take_more (x ∷ xs) i x lt)
        ∙ (fold_push step None (take i (x ∷ xs)) (slice_index_or (x ∷ xs) i x)
        ∙ (ap (λ o. lesser o here) (upto i (omega (arith, le)))
        ∙ (ap (lesser (least_among cleans slots m (length (x ∷ xs)) i)) (each i x lt)
        ∙ (sym (least_more cleans grain slots m (length (x ∷ xs)) i lt)
        ∙ ap (least_among cleans slots m (length (x ∷ xs))) (sym next))))))

-- ---- at the grain

-- There is something to do at the least grain, and in its lane at its place.
pub work_at_least : (cleans : Bool) (grain : GrainSize) (slots : List Slot) (m : ℕ) (g : GrainNo) →
    least_grain (single_lane grain) slots (filled_by cleans slots m) m ≡ Some g → IsSome (filled_by cleans slots m g.0)
work_at_least cleans grain slots m g e = by (first_below (has_work cleans slots m) (bound_of slots m)) refl e
  where
    there : (o : Option ℕ) → is_some o ≡ true → IsSome o
    there None q = absurd cc
    there (Some x) q = cc

    by : (o : Option ℕ) → first_below (has_work cleans slots m) (bound_of slots m) ≡ o → option_map (λ x. grain_no (number_at (single_lane grain) x)) o ≡ Some g → IsSome (filled_by cleans slots m g.0)
    by None is q = absurd cc
    by (Some x) is q =
        let found : IsFirst (has_work cleans slots m) (bound_of slots m) x = first_some (has_work cleans slots m) (bound_of slots m) x is in
        let number : grain_no (x * 1 + 0) ≡ g = cc in
        let same : x ≡ x * 1 + 0 = omega arith in
        subst (λ y. IsSome (filled_by cleans slots m y)) (same ∙ ap (λ (y : GrainNo). y.0) number) (there (filled_by cleans slots m x) found.passes)

pub work_in_lane : (cleans : Bool) (grain : GrainSize) (lanes : ℕ) (slots : List Slot) (m g : ℕ) → g % lanes < lanes → IsSome (filled_by cleans slots m g) →
    IsSome (filled_by cleans (parts (lane_of grain lanes (g % lanes)) slots) m (place_of (lane_of grain lanes (g % lanes)) g))
work_in_lane cleans grain lanes slots m g below some =
    let l : LaneOf = lane_of grain lanes (g % lanes) in
    let P : Option ℕ → Type 0 = λ o. IsSome o in
    subst P (sym (filled_parts cleans l below slots m (place_of l g) ∙ ap (filled_by cleans slots m) (number_of_place l g refl))) some
