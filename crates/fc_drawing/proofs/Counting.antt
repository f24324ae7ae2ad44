-- A pair of volumes among totals.
use Rattle.std.proofs.Common.{◌≡◌, ℕ, zero, suc, ◌+◌, ◌<◌, ◌≤◌, Bool, true, false, Option, List, [], ◌∷◌, ◌++◌, drop, get_or, length, set, refl, sym, ap, ◌∙◌, arith}
use Rattle.std.proofs.lemmas.List.{drop_all, drop_more}
use Rattle.fc_base.specs.declared.ids.VolId.{VolId}
use Rattle.fc_drawing.specs.Totals.{counted, is_of, moved_once, none_of, place_of}
use Rattle.fc_drawing.specs.declared.totals.PairTotal.{PairTotal}

-- ---- where it stands

place_behind : (from : Option VolId) (to : VolId) (total : PairTotal) (rest : List PairTotal) (b : Bool) → is_of from to total ≡ b → b ≡ false → place_of from to (total ∷ rest) ≡ suc (place_of from to rest)
place_behind from to total rest b is other = let e : is_of from to total ≡ false = is ∙ other in rw e refl

pub place_more : (from : Option VolId) (to : VolId) (totals : List PairTotal) (i whole : ℕ) (d : PairTotal) (is : Bool) → i < length totals → is ≡ is_of from to (get_or totals i d) → is ≡ false →
    place_of from to (drop i totals) + i ≡ whole → place_of from to (drop (i + 1) totals) + (i + 1) ≡ whole
place_more from to totals i whole d is inside answered other before =
    let here : drop i totals ≡ get_or totals i d ∷ drop (i + 1) totals = drop_more totals i d inside in
    let one : place_of from to (drop i totals) ≡ suc (place_of from to (drop (i + 1) totals)) =
    ap (place_of from to) here ∙ place_behind from to (get_or totals i d) (drop (i + 1) totals) is (sym answered) other in
    omega (arith, one, before)

pub place_here : (from : Option VolId) (to : VolId) (totals : List PairTotal) (i whole : ℕ) (d : PairTotal) (is : Bool) → i < length totals → is ≡ is_of from to (get_or totals i d) → is ≡ true →
    place_of from to (drop i totals) + i ≡ whole → i ≡ whole
place_here from to totals i whole d is inside answered found before =
    let here : drop i totals ≡ get_or totals i d ∷ drop (i + 1) totals = drop_more totals i d inside in
    let e : is_of from to (get_or totals i d) ≡ true = sym answered ∙ found in
    let first : place_of from to (get_or totals i d ∷ drop (i + 1) totals) ≡ zero = rw e refl in
    let none : place_of from to (drop i totals) ≡ zero = ap (place_of from to) here ∙ first in
    omega (arith, none, before)

pub place_past : (from : Option VolId) (to : VolId) (totals : List PairTotal) (i whole : ℕ) → length totals ≤ i → place_of from to (drop i totals) + i ≡ whole → i ≡ whole
place_past from to totals i whole past before =
    let none : place_of from to (drop i totals) ≡ zero = ap (place_of from to) (drop_all i totals past) in
    omega (arith, none, before)

-- ---- one move more

pub counted_there : (from : Option VolId) (to : VolId) (in_place : Bool) (totals : List PairTotal) (k : ℕ) (d : PairTotal) → k ≡ place_of from to totals → k < length totals →
    set totals k (moved_once in_place (get_or totals k d)) ≡ counted from to in_place totals
counted_there from to in_place [] k d at inside = let lt : k < zero = inside in absurd (omega arith)
counted_there from to in_place (total ∷ totals) k d at inside = by (is_of from to total) refl (λ j here within. counted_there from to in_place totals j d here within)
  where
    by : (b : Bool) → is_of from to total ≡ b → ((j : ℕ) → j ≡ place_of from to totals → j < length totals → set totals j (moved_once in_place (get_or totals j d)) ≡ counted from to in_place totals) →
        set (total ∷ totals) k (moved_once in_place (get_or (total ∷ totals) k d)) ≡ counted from to in_place (total ∷ totals)
    by true e rest =
        let first : k ≡ zero = at ∙ rw e refl in
        rw (first, e) refl
    by false e rest =
        let behind : k ≡ suc (place_of from to totals) = at ∙ rw e refl in
        let within : k < suc (length totals) = inside in
        let lt : place_of from to totals < length totals = omega (arith, behind, within) in
        rw (behind, e) (ap (λ z. total ∷ z) (rest (place_of from to totals) refl lt))

pub counted_new : (from : Option VolId) (to : VolId) (in_place : Bool) (totals : List PairTotal) (k : ℕ) → k ≡ place_of from to totals → length totals ≤ k →
    totals ++ moved_once in_place (none_of from to) ∷ [] ≡ counted from to in_place totals
counted_new from to in_place [] k at past = refl
counted_new from to in_place (total ∷ totals) k at past = by (is_of from to total) refl (λ j here beyond. counted_new from to in_place totals j here beyond)
  where
    by : (b : Bool) → is_of from to total ≡ b → ((j : ℕ) → j ≡ place_of from to totals → length totals ≤ j → totals ++ moved_once in_place (none_of from to) ∷ [] ≡ counted from to in_place totals) →
        (total ∷ totals) ++ moved_once in_place (none_of from to) ∷ [] ≡ counted from to in_place (total ∷ totals)
    by true e rest =
        let first : k ≡ zero = at ∙ rw e refl in
        let beyond : suc (length totals) ≤ k = past in
        absurd (omega (arith, first, beyond))
    by false e rest =
        let behind : k ≡ suc (place_of from to totals) = at ∙ rw e refl in
        let beyond : suc (length totals) ≤ k = past in
        let le : length totals ≤ place_of from to totals = omega (arith, behind, beyond) in
        rw e (ap (λ z. total ∷ z) (rest (place_of from to totals) refl le))
