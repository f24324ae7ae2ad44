-- Links from node to node, and words for marking along them.
use Rattle.std.specs.Prelude.{◌≡◌, ◌⊎◌, ℕ, ◌<◌, ◌≤◌, Bool, eqb, Option, Some, None, List, length, slice_index_or, count_by, min}
use Rattle.fc_loops.specs.declared.loops.Link.{Link}
use Rattle.fc_loops.specs.Routes.{mark_at}

abbrev pub no_link : Link
no_link = record { from = 0; to = 0 }

abbrev pub link_at : List Link → ℕ → Link
link_at links k = slice_index_or links k no_link

-- One of the links leads from the one node to the other.
pub record HasLink (links : List Link) (v w : ℕ) : Type 0 where
  pub at : ℕ
  pub there : at < length links
  pub from_is : (link_at links at).from ≡ v
  pub to_is : (link_at links at).to ≡ w

-- Each link joins nodes below a bound.
pub record IsWithin (nodes : ℕ) (link : Link) : Type 0 where
  pub from : link.from < nodes
  pub to : link.to < nodes

abbrev pub AreWithin : List Link → ℕ → Type 0
AreWithin links nodes = (k : ℕ) → k < length links → IsWithin nodes (link_at links k)

-- The node is as many edges away from the start as the level says.
abbrev pub IsAtLevel : ℕ → ℕ → List ℕ → ℕ → Type 0
IsAtLevel start level marks v = ((level ≡ 0) × (v ≡ start)) ⊎ ((0 < level) × (mark_at marks v ≡ level))

abbrev pub is_zero : ℕ → Bool
is_zero mark = eqb mark 0

-- How many nodes have no mark.
abbrev pub unmarked : List ℕ → ℕ
unmarked marks = count_by is_zero marks

-- A link fits where it leads from the node to one with the mark.
pub record FitsStep (here mark : ℕ) (marks : List ℕ) (link : Link) : Type 0 where
  pub from_is : link.from ≡ here
  pub mark_is : mark_at marks link.to ≡ mark

-- The least node to which one of the first links that fit leads, or none.
pub record IsLeastStep (links : List Link) (here mark : ℕ) (marks : List ℕ) (bound next : ℕ) : Type 0 where
  pub at : ℕ
  pub there : at < bound
  pub fits : FitsStep here mark marks (link_at links at)
  pub to_is : (link_at links at).to ≡ next
  pub least : (k : ℕ) → k < bound → FitsStep here mark marks (link_at links k) → next ≤ (link_at links k).to

abbrev pub LeastStep : List Link → ℕ → ℕ → List ℕ → ℕ → Option ℕ → Type 0
LeastStep links here mark marks bound None = (k : ℕ) → k < bound → FitsStep here mark marks (link_at links k) → ⊥
LeastStep links here mark marks bound (Some next) = IsLeastStep links here mark marks bound next

-- The lesser of a node and the least so far.
abbrev pub least_of : Option ℕ → ℕ → ℕ
least_of None v = v
least_of (Some best) v = min best v
