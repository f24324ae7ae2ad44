-- Routes over edges of any kind, and the loop that is told of them.
use Rattle.std.specs.Prelude.{◌≡◌, ℕ, ◌+◌, ◌<◌, ◌≤◌, Option, Some, None, List, [], ◌∷◌, length, slice_index_or}
use Rattle.fc_base.specs.RestoreGraph.{IsNoLater}

-- Edges from a node through a list of nodes to another.
abbrev pub RouteBy : (ℕ → ℕ → Type 0) → ℕ → List ℕ → ℕ → Type 0
RouteBy E v [] w = E v w
RouteBy E v (x ∷ xs) w = E v x × RouteBy E x xs w

-- The loop begins with the least node that is on any loop, none from there is shorter, and of those as short none stands
-- before it in dictionary order.
pub record IsToldBy (E : ℕ → ℕ → Type 0) (first : ℕ) (rest : List ℕ) : Type 0 where
  pub is_loop : RouteBy E first rest first
  pub least : (v : ℕ) (xs : List ℕ) → RouteBy E v xs v → first ≤ v
  pub shortest : (other : List ℕ) → RouteBy E first other first → length rest ≤ length other
  pub earliest : (other : List ℕ) → RouteBy E first other first → length other ≡ length rest → IsNoLater rest other

abbrev pub ToldBy : (ℕ → ℕ → Type 0) → Option (List ℕ) → Type 0
ToldBy E None = (v : ℕ) (xs : List ℕ) → RouteBy E v xs v → ⊥
ToldBy E (Some []) = ⊥
ToldBy E (Some (v ∷ vs)) = IsToldBy E v vs

-- ---- marks: how many edges it takes from each node to a start, and 0 where that isn't known

abbrev pub mark_at : List ℕ → ℕ → ℕ
mark_at marks v = slice_index_or marks v 0

-- Each mark is the length of a route.
abbrev pub AreReal : (ℕ → ℕ → Type 0) → ℕ → List ℕ → Type 0
AreReal E start marks = (v : ℕ) → 0 < mark_at marks v → (xs : List ℕ) × (length xs + 1 ≡ mark_at marks v) × RouteBy E v xs start

-- The marks up to a level: where a route has as many edges or fewer, there is a mark, and it is the least.
pub record AreMarkedTo (E : ℕ → ℕ → Type 0) (start level : ℕ) (marks : List ℕ) : Type 0 where
  pub low : (v : ℕ) → mark_at marks v ≤ level
  pub real : AreReal E start marks
  pub near : (v : ℕ) (xs : List ℕ) → length xs + 1 ≤ level → RouteBy E v xs start → (0 < mark_at marks v) × (mark_at marks v ≤ length xs + 1)

-- All marks: each the length of a shortest route, and 0 where there is none.
pub record AreMarked (E : ℕ → ℕ → Type 0) (start : ℕ) (marks : List ℕ) : Type 0 where
  pub real : AreReal E start marks
  pub near : (v : ℕ) (xs : List ℕ) → RouteBy E v xs start → (0 < mark_at marks v) × (mark_at marks v ≤ length xs + 1)

-- ---- the walk along falling marks

-- A route of so many edges to the start before which no route as long stands in dictionary order.
pub record IsBest (E : ℕ → ℕ → Type 0) (start v : ℕ) (xs : List ℕ) (edges : ℕ) : Type 0 where
  pub is_route : RouteBy E v xs start
  pub long : length xs + 1 ≡ edges
  pub earliest : (other : List ℕ) → RouteBy E v other start → length other ≡ length xs → IsNoLater xs other

-- Such a route from the start back to it, with the start at its head.
abbrev pub IsBestLoop : (ℕ → ℕ → Type 0) → ℕ → ℕ → List ℕ → Type 0
IsBestLoop E start edges [] = ⊥
IsBestLoop E start edges (v ∷ xs) = (v ≡ start) × IsBest E start v xs edges
