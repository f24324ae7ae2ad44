-- Which volumes stand before which: a restore is refused where its trigger would close a loop here.
use Rattle.std.specs.Prelude.{◌≡◌, ◌≢◌, ◌⊎◌, ℕ, ◌<◌, ◌≤◌, true, false, List, [], ◌∷◌, length}
use Rattle.fc_base.specs.Column.{Shape}

-- An edge runs from a volume to another where an old slot of the one stands before a live slot of the other in one chain.
pub record Edge (s : Shape) (from to : ℕ) : Type 0 where
  pub other : from ≢ to
  pub old : ℕ
  pub live : ℕ
  pub before : old < live
  pub there : live < s.count
  pub one_chain : s.chain old ≡ s.chain live
  pub old_is_old : s.is_live old ≡ false
  pub old_is_from : s.volume old ≡ from
  pub live_is_live : s.is_live live ≡ true
  pub live_is_to : s.volume live ≡ to

-- A way along one edge or several.
pub data Way (s : Shape) : ℕ → ℕ → Type 0 where
  last_edge : {v w : ℕ} → Edge s v w → Way s v w
  next_edge : {v w x : ℕ} → Edge s v w → Way s w x → Way s v x

-- The graph has no loop: no way leads from a volume back to it.
abbrev pub HasNoLoop : Shape → Type 0
HasNoLoop s = (v : ℕ) → Way s v v → ⊥

-- Each volume has at most one live slot.
abbrev pub HasOneLive : Shape → Type 0
HasOneLive s =
    (i j : ℕ) → i < s.count → j < s.count → s.is_live i ≡ true → s.is_live j ≡ true → s.volume i ≡ s.volume j → i ≡ j

-- A volume is used as a source where some slot of it has a live slot after it in its chain. Such a volume becomes a target
-- only with the option `-restore`.
pub record IsUsed (s : Shape) (v : ℕ) : Type 0 where
  pub slot : ℕ
  pub live : ℕ
  pub behind : slot < live
  pub there : live < s.count
  pub one_chain : s.chain slot ≡ s.chain live
  pub of_volume : s.volume slot ≡ v
  pub live_is_live : s.is_live live ≡ true

-- Edges from a volume through a list of volumes to another.
abbrev pub IsRoute : Shape → ℕ → List ℕ → ℕ → Type 0
IsRoute s v [] w = Edge s v w
IsRoute s v (x ∷ xs) w = Edge s v x × IsRoute s x xs w

-- The volumes of a loop, in order, from the first back to it.
abbrev pub IsLoop : Shape → List ℕ → Type 0
IsLoop s [] = ⊥
IsLoop s (v ∷ vs) = IsRoute s v vs v

-- One list of numbers doesn't stand after another in dictionary order.
abbrev pub IsNoLater : List ℕ → List ℕ → Type 0
IsNoLater [] ys = Unit {0}
IsNoLater (x ∷ xs) [] = ⊥
IsNoLater (x ∷ xs) (y ∷ ys) = (x < y) ⊎ ((x ≡ y) × IsNoLater xs ys)

-- The loop that is told: it begins with the least volume that is on any loop, no loop from there is shorter, and of those
-- as short none stands before it in dictionary order.
pub record IsToldLoop (s : Shape) (first : ℕ) (rest : List ℕ) : Type 0 where
  pub is_loop : IsRoute s first rest first
  pub least : (v : ℕ) → Way s v v → first ≤ v
  pub shortest : (other : List ℕ) → IsRoute s first other first → length rest ≤ length other
  pub earliest : (other : List ℕ) → IsRoute s first other first → length other ≡ length rest → IsNoLater rest other
