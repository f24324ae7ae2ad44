-- The walk along falling marks is the loop that is told.
use Rattle.std.proofs.Common.{◌≡◌, ℕ, ◌+◌, ◌<◌, ◌≤◌, Some, List, [], ◌∷◌, ◌++◌, length, append_assoc, refl, sym, ap, subst, ◌∙◌, arith, inl, inr}
use Rattle.std.proofs.lemmas.Bool.{cases_eq, cases_lt}
use Rattle.std.proofs.lemmas.List.{append-nil}
use Rattle.fc_base.specs.RestoreGraph.{IsNoLater}
use Rattle.fc_loops.specs.Routes.{RouteBy, IsToldBy, ToldBy, mark_at, AreMarked, IsBest, IsBestLoop}

-- from the next node on the route is a best one, and so with the node before it
pub best_more : (E : ℕ → ℕ → Type 0) (start here next left : ℕ) (marks ys : List ℕ) → AreMarked E start marks → mark_at marks here ≡ left + 1 → 0 < left → E here next → mark_at marks next ≡ left →
    ((x : ℕ) → E here x → mark_at marks x ≡ left → next ≤ x) → IsBest E start next ys left → IsBest E start here (next ∷ ys) (left + 1)
best_more E start here next left marks ys m mh pos e mn least b =
    record { is_route = (e, b.is_route); long = (let l : length ys + 1 ≡ left = b.long in omega arith); earliest = earliest }
  where
    mark_of : (x : ℕ) (xs : List ℕ) → E here x → RouteBy E x xs start → length xs + 1 ≡ left → mark_at marks x ≡ left
    mark_of x xs h r l =
        let n = m.near x xs r in
        let n0 : 0 < mark_at marks x = n.0 in
        let n1 : mark_at marks x ≤ length xs + 1 = n.1 in
        let s = m.real x n0 in
        let s1 : length s.0 + 1 ≡ mark_at marks x = s.1 in
        let t = m.near here (x ∷ s.0) (h, s.2) in
        let t1 : mark_at marks here ≤ length (x ∷ s.0) + 1 = t.1 in
        omega arith

    earliest : (other : List ℕ) → RouteBy E here other start → length other ≡ length (next ∷ ys) → IsNoLater (next ∷ ys) other
    earliest [] r l = absurd (omega arith)
    earliest (x ∷ xs) (h, r) l =
        let bl : length ys + 1 ≡ left = b.long in
        let ll : length xs ≡ length ys = omega arith in
        let le : next ≤ x = least x h (mark_of x xs h r (omega arith)) in
        elim (cases_eq next x) [
          | inl same ↦ inr (same, b.earliest xs (subst (λ (z : ℕ). RouteBy E z xs start) (sym same) r) ll)
          | inr ne ↦ inl (omega arith)
        ]

-- the last edge leads to the start
pub best_last : (E : ℕ → ℕ → Type 0) (start here : ℕ) (marks : List ℕ) → AreMarked E start marks → mark_at marks here ≡ 1 → IsBest E start here [] 1
best_last E start here marks m one = from_real (m.real here (omega arith)).0 (m.real here (omega arith)).1 (m.real here (omega arith)).2
  where
    from_real : (xs : List ℕ) → length xs + 1 ≡ mark_at marks here → RouteBy E here xs start → IsBest E start here [] 1
    from_real [] l r = record { is_route = r; long = refl; earliest = λ other s q. tt }
    from_real (x ∷ xs) l r = absurd (omega arith)

-- there is a next node
pub next_there : (E : ℕ → ℕ → Type 0) (start here left : ℕ) (marks : List ℕ) → AreMarked E start marks → mark_at marks here ≡ left + 1 → 0 < left → (x : ℕ) × E here x × (mark_at marks x ≡ left)
next_there E start here left marks m mh pos = from_real (m.real here (omega arith)).0 (m.real here (omega arith)).1 (m.real here (omega arith)).2
  where
    from_real : (xs : List ℕ) → length xs + 1 ≡ mark_at marks here → RouteBy E here xs start → (x : ℕ) × E here x × (mark_at marks x ≡ left)
    from_real [] l r = absurd (omega arith)
    from_real (x ∷ xs) l (e, r) =
        let n = m.near x xs r in
        let n0 : 0 < mark_at marks x = n.0 in
        let n1 : mark_at marks x ≤ length xs + 1 = n.1 in
        let s = m.real x n0 in
        let s1 : length s.0 + 1 ≡ mark_at marks x = s.1 in
        let t = m.near here (x ∷ s.0) (e, s.2) in
        let t1 : mark_at marks here ≤ length (x ∷ s.0) + 1 = t.1 in
        (x, e, omega arith)

-- ---- the nodes so far

-- However the route goes on best from here, the nodes so far and then it are a best loop.
abbrev pub GoesOn : (ℕ → ℕ → Type 0) → ℕ → ℕ → List ℕ → ℕ → ℕ → Type 0
GoesOn E start edges nodes here left = (ys : List ℕ) → IsBest E start here ys left → IsBestLoop E start edges (nodes ++ ys)

pub goes_first : (E : ℕ → ℕ → Type 0) (start edges : ℕ) (none nodes : List ℕ) → none ≡ [] → nodes ≡ none ++ start ∷ [] → GoesOn E start edges nodes start edges
goes_first E start edges none nodes e f =
    let g : GoesOn E start edges (start ∷ []) start edges = λ ys b. (refl, b) in
    subst (λ (z : List ℕ). GoesOn E start edges z start edges) (sym (f ∙ ap (λ z. z ++ start ∷ []) e)) g

pub goes_more : (E : ℕ → ℕ → Type 0) (start edges : ℕ) (nodes : List ℕ) (here next left : ℕ) (marks : List ℕ) → AreMarked E start marks → mark_at marks here ≡ left + 1 → 0 < left → E here next → mark_at marks next ≡ left →
    ((x : ℕ) → E here x → mark_at marks x ≡ left → next ≤ x) → GoesOn E start edges nodes here (left + 1) → GoesOn E start edges (nodes ++ next ∷ []) next left
goes_more E start edges nodes here next left marks m mh pos e mn least g =
    λ ys b. subst (λ (z : List ℕ). IsBestLoop E start edges z) (sym (append_assoc nodes (next ∷ []) ys)) (g (next ∷ ys) (best_more E start here next left marks ys m mh pos e mn least b))

pub goes_last : (E : ℕ → ℕ → Type 0) (start edges : ℕ) (nodes : List ℕ) (here : ℕ) (marks : List ℕ) → AreMarked E start marks → mark_at marks here ≡ 1 → GoesOn E start edges nodes here 1 → IsBestLoop E start edges nodes
goes_last E start edges nodes here marks m one g = subst (λ (z : List ℕ). IsBestLoop E start edges z) (append-nil nodes) (g [] (best_last E start here marks m one))

-- ---- the answer

-- where no node below the start is on a loop, a best loop from it is the one that is told
pub best_told : (E : ℕ → ℕ → Type 0) (start : ℕ) (marks nodes : List ℕ) → AreMarked E start marks → ((v : ℕ) → v < start → (xs : List ℕ) → RouteBy E v xs v → ⊥) → IsBestLoop E start (mark_at marks start) nodes → ToldBy E (Some nodes)
best_told E start marks [] m none b = absurd b
best_told E start marks (v ∷ vs) m none (e, b) =
    let s : IsBest E start start vs (mark_at marks start) = subst (λ (z : ℕ). IsBest E start z vs (mark_at marks start)) e b in
    subst (λ (z : ℕ). IsToldBy E z vs) (sym e) (record {
      is_loop = s.is_route;
      least = λ w xs r. elim (cases_lt w start) [ inl lt ↦ absurd (none w lt xs r) | inr le ↦ le ];
      shortest = λ other r. (let n : mark_at marks start ≤ length other + 1 = (m.near start other r).1 in let l : length vs + 1 ≡ mark_at marks start = s.long in omega arith);
      earliest = s.earliest;
    })

-- a node without a mark is on no loop
pub unmarked_off : (E : ℕ → ℕ → Type 0) (start : ℕ) (marks : List ℕ) → AreMarked E start marks → mark_at marks start ≡ 0 → (xs : List ℕ) → RouteBy E start xs start → ⊥
unmarked_off E start marks m z xs r = let n : 0 < mark_at marks start = (m.near start xs r).0 in omega arith
