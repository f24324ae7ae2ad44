-- The loop of restores that is told is determined.
use Rattle.std.proofs.Common.{◌≡◌, ℕ, ◌≤◌, inl, inr, Option, Some, None, List, [], ◌∷◌, length, map, refl, sym, ap, ap₂, subst, ◌∙◌, arith}
use Rattle.fc_base.specs.Column.{Shape}
use Rattle.fc_base.specs.RestoreGraph.{Way, IsRoute, IsNoLater, IsToldLoop}
use Rattle.fc_base.specs.RestoreGraph.Way.{last_edge, next_edge}
use Rattle.fc_base.specs.Sheet.{shape_of}
use Rattle.fc_base.specs.SheetStep.{triggered}
use Rattle.fc_base.specs.SheetView.{LoopAnswer}
use Rattle.fc_base.specs.declared.command.Command.{Command}
use Rattle.fc_base.specs.declared.fault.Refusal.{Refusal}
use Rattle.fc_base.specs.declared.ids.VolId.{VolId}
use Rattle.fc_base.specs.declared.size.GrainSize.{GrainSize}
use Rattle.fc_base.specs.declared.volume.Mapping.{Mapping}
use Rattle.fc_books.specs.Books.{Books}
use Rattle.fc_books.specs.Deciding.{refused, pairs_of, LoopAfter, LoopTold, IsLoopOf}
use Rattle.fc_books.specs.Starting.{pair_of}

route_way : (s : Shape) (v : ℕ) (xs : List ℕ) (w : ℕ) → IsRoute s v xs w → Way s v w
route_way s v [] w e = last_edge e
route_way s v (x ∷ xs) w r = next_edge r.0 (route_way s x xs w r.1)

-- two lists of one length, neither of which stands after the other
no_later_one : (xs ys : List ℕ) → length xs ≡ length ys → IsNoLater xs ys → IsNoLater ys xs → xs ≡ ys
no_later_one [] [] same h k = refl
no_later_one [] (y ∷ ys) same h k = absurd (omega arith)
no_later_one (x ∷ xs) [] same h k = absurd (omega arith)
no_later_one (x ∷ xs) (y ∷ ys) same (inl h) (inl k) = absurd (omega arith)
no_later_one (x ∷ xs) (y ∷ ys) same (inl h) (inr k) = absurd (omega (arith, k.0))
no_later_one (x ∷ xs) (y ∷ ys) same (inr h) (inl k) = absurd (omega (arith, h.0))
no_later_one (x ∷ xs) (y ∷ ys) same (inr h) (inr k) =
    let rest : length xs ≡ length ys = omega arith in
    ap₂ (λ z zs. z ∷ zs) h.0 (no_later_one xs ys rest h.1 k.1)

record AreOneLoop (first second : ℕ) (xs ys : List ℕ) : Type 0 where
  begins : first ≡ second
  rest : xs ≡ ys

from_one : (s : Shape) (first : ℕ) (xs ys : List ℕ) → IsToldLoop s first xs → IsToldLoop s first ys → xs ≡ ys
from_one s first xs ys t u =
    let short : length xs ≤ length ys = t.shortest ys u.is_loop in
    let short_other : length ys ≤ length xs = u.shortest xs t.is_loop in
    let same : length xs ≡ length ys = omega arith in
    no_later_one xs ys same (t.earliest ys u.is_loop (sym same)) (u.earliest xs t.is_loop same)

one_loop : (s : Shape) (first second : ℕ) (xs ys : List ℕ) → IsToldLoop s first xs → IsToldLoop s second ys → AreOneLoop first second xs ys
one_loop s first second xs ys t u =
    let low : first ≤ second = t.least second (route_way s second ys second u.is_loop) in
    let low_other : second ≤ first = u.least first (route_way s first xs first t.is_loop) in
    let begins : first ≡ second = omega arith in
    let P : ℕ → Type 0 = λ v. IsToldLoop s v ys in
    record { begins = begins; rest = from_one s first xs ys t (subst P (sym begins) u) }

-- volumes are determined by their numbers
same_volume : (v w : VolId) → v.0 ≡ w.0 → v ≡ w
same_volume v w e = ap (λ n. record { 0 = n }) e

abbrev numbers_of : List VolId → List ℕ
numbers_of vs = map (λ (v : VolId). v.0) vs

same_volumes : (vs ws : List VolId) → numbers_of vs ≡ numbers_of ws → vs ≡ ws
same_volumes [] [] e = refl
same_volumes [] (w ∷ ws) e = absurd cc
same_volumes (v ∷ vs) [] e = absurd cc
same_volumes (v ∷ vs) (w ∷ ws) e =
    let first : v.0 ≡ w.0 = cc in
    let rest : numbers_of vs ≡ numbers_of ws = cc in
    ap₂ (λ z zs. z ∷ zs) (same_volume v w first) (same_volumes vs ws rest)

one_answer : (s : Shape) (a b : Option (List VolId)) → LoopAnswer s a → LoopAnswer s b → a ≡ b
one_answer s None None h k = refl
one_answer s None (Some []) h k = absurd k
one_answer s None (Some (w ∷ ws)) h k = absurd (h w.0 (route_way s w.0 (numbers_of ws) w.0 k.is_loop))
one_answer s (Some []) b h k = absurd h
one_answer s (Some (v ∷ vs)) None h k = absurd (k v.0 (route_way s v.0 (numbers_of vs) v.0 h.is_loop))
one_answer s (Some (v ∷ vs)) (Some []) h k = absurd k
one_answer s (Some (v ∷ vs)) (Some (w ∷ ws)) h k =
    let one : AreOneLoop v.0 w.0 (numbers_of vs) (numbers_of ws) =
    one_loop s v.0 w.0 (numbers_of vs) (numbers_of ws) h k in
    ap Some (ap₂ (λ z zs. z ∷ zs) (same_volume v w one.begins) (same_volumes vs ws one.rest))

one_after : (b : Books) (ms : List Mapping) (x y : Option (List VolId)) → LoopAfter b ms x → LoopAfter b ms y → x ≡ y
one_after b [] x y h k = h ∙ sym k
one_after b (m ∷ ms) x y h k = one_answer (shape_of (triggered (map pair_of (m ∷ ms)) b.sheet).slots) x y h k

one_told :
    (refusal : Option Refusal) (b : Books) (command : Command) (x y : Option (List VolId)) →
    LoopTold refusal b command x → LoopTold refusal b command y → x ≡ y
one_told None b command x y h k = one_after b (pairs_of b command) x y h k
one_told (Some refusal) b command x y h k = h ∙ sym k

pub loop_one :
    (grain : GrainSize) (b : Books) (command : Command) (x y : Option (List VolId)) →
    IsLoopOf grain b command x → IsLoopOf grain b command y → x ≡ y
loop_one grain b command x y h k = one_told (refused grain b command) b command x y h k
