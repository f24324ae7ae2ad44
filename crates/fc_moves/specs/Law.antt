-- The law of moves: what must be copied before a grain is overwritten is copied in a safe order.
use Rattle.std.specs.Prelude.{◌≡◌, ◌≢◌, ℕ, ◌<◌, Bool, true, false, Option, Some, List, [], ◌∷◌, ◌++◌, map, reverse}
use Rattle.std.specs.List.{IsDistinct}
use Rattle.std.specs.Prelude.{eqb}
use Rattle.fc_base.specs.Column.{Column, holder}
use Rattle.fc_base.specs.Moves.{is_in, is_in_place, asks, write_asks, Must, fill_moves, write_moves, after_moves, written, torn}
use Rattle.fc_base.specs.OneByOne.{Progress, begin_at, fill_now, write_now}
use Rattle.fc_base.specs.RestoreGraph.{HasOneLive, HasNoLoop}
use Rattle.fc_base.specs.Safety.{shown, grains_after, IsSafeMove, IsSafeWrite, HasHolders}

-- The moves with the marks that they have on the column before all of them, the latest first.
abbrev pub marked_last_first : Column → List ℕ → List (ℕ × Bool)
marked_last_first c ms = map (λ m. (m, is_in_place c m)) (reverse ms)

-- What holds of a list of moves with these roots.
pub record ListLaw (c : Column) (roots moves : List ℕ) : Type 0 where
  -- it has exactly the members of the closed set, each once
  pub only : (m : ℕ) → is_in m moves ≡ true → Must c roots m
  pub all : (m : ℕ) → Must c roots m → is_in m moves ≡ true
  pub once : IsDistinct eqb moves
  -- each slot stands after all that it asks for
  pub in_order : (before rest : List ℕ) (m a : ℕ) → moves ≡ before ++ m ∷ rest → is_in a (asks c m) ≡ true → is_in a before ≡ true
  -- each move is safe where it is made, and has the mark that it had before all moves
  pub safe : (before rest : List ℕ) (m : ℕ) → moves ≡ before ++ m ∷ rest → IsSafeMove (after_moves c before) m
  pub marks : (before rest : List ℕ) (m : ℕ) → moves ≡ before ++ m ∷ rest → is_in_place (after_moves c before) m ≡ is_in_place c m
  -- after any of them every live slot shows what it did
  pub shows : (grains : ℕ → Option (List ℕ)) → HasHolders c → (before rest : List ℕ) → moves ≡ before ++ rest →
      (k : ℕ) → k < c.count → c.is_live k ≡ true → shown (after_moves c before) (grains_after c grains before) k ≡ shown c grains k
  -- also where a move's own write fails and leaves any bytes
  pub shows_torn : (grains after : ℕ → Option (List ℕ)) → HasHolders c → (before rest : List ℕ) (m : ℕ) → moves ≡ before ++ m ∷ rest →
      is_in_place c m ≡ false → ((v : ℕ) → v ≢ c.volume m → after v ≡ grains_after c grains before v) →
      (k : ℕ) → k < c.count → c.is_live k ≡ true → shown (torn (after_moves c before) m false) after k ≡ shown c grains k

-- A fill of a live slot that lacks the grain.
pub record FillLaw (c : Column) (m : ℕ) : Type 0 where
  pub list : ListLaw c (m ∷ []) (fill_moves c m)
  pub ends : (before : List ℕ) × (fill_moves c m ≡ before ++ m ∷ [])
  pub one_by_one : let p : Progress = record { column = after_moves c (fill_moves c m); made = marked_last_first c (fill_moves c m) } in
      fill_now c.count m (begin_at c) ≡ p

-- A write to the volume with live slot `t`.
pub record WriteLaw (c : Column) (t : ℕ) : Type 0 where
  pub list : ListLaw c (write_asks c t) (write_moves c t)
  pub one_by_one : let p : Progress = record { column = after_moves c (write_moves c t); made = marked_last_first c (write_moves c t) } in
      write_now c.count t (begin_at c) ≡ p
  -- the written slot itself isn't moved, and after the moves the write is safe
  pub apart : is_in t (write_moves c t) ≡ false
  pub safe : IsSafeWrite (after_moves c (write_moves c t)) t
  -- whatever a write or a torn write then leaves in the volume's grain, every other live slot shows what it did
  pub shows : (grains after : ℕ → Option (List ℕ)) → HasHolders c →
      ((v : ℕ) → v ≢ c.volume t → after v ≡ grains_after c grains (write_moves c t) v) →
      (k : ℕ) → k < c.count → c.is_live k ≡ true → k ≢ t →
      (shown (written (after_moves c (write_moves c t)) t) after k ≡ shown c grains k)
      × ((now : Bool) → shown (torn (after_moves c (write_moves c t)) t now) after k ≡ shown c grains k)
  -- a torn write to a volume that reads another volume's grain leaves what it shows, too
  pub shows_own : (grains after : ℕ → Option (List ℕ)) → HasHolders c →
      ((v : ℕ) → v ≢ c.volume t → after v ≡ grains_after c grains (write_moves c t) v) →
      ((h : ℕ) → holder (after_moves c (write_moves c t)) t ≡ Some h → c.volume h ≢ c.volume t) →
      shown (torn (after_moves c (write_moves c t)) t false) after t ≡ shown c grains t

-- The law, for the columns of every sheet that is reached.
abbrev pub MovesLaw : Type 0
MovesLaw =
    (c : Column) → HasOneLive c.shape → HasNoLoop c.shape → (m : ℕ) → m < c.count → c.is_live m ≡ true →
    (c.held m ≡ false → FillLaw c m) × WriteLaw c m
