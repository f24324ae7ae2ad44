-- What the live slots show, and when a volume's grain may be overwritten.
use Rattle.std.specs.Prelude.{◌≡◌, ◌≢◌, ℕ, ◌<◌, true, false, cond, eqb, Option, Some, None, List, [], ◌∷◌, option_map}
use Rattle.fc_base.specs.Column.{Column, holder}
use Rattle.fc_base.specs.Moves.{is_in_place, next_behind, moved}

-- What a slot shows, where `grains` are the physical grains of the volumes: the grain of its holder's volume.
unfoldable pub shown : {G : Type 0} → Column → (ℕ → G) → ℕ → Option G
shown c grains k = option_map (λ h. grains (c.volume h)) (holder c k)

-- The grain that a slot reads, or else this one.
abbrev pub or_else : {G : Type 0} → Option G → G → G
or_else None g = g
or_else (Some x) g = x

-- The physical grains after a move of `m`: in place they stay, otherwise `m`'s volume gets what `m` shows.
unfoldable pub grains_after_move : {G : Type 0} → Column → (ℕ → G) → ℕ → ℕ → G
grains_after_move c grains m v =
    cond (is_in_place c m) (grains v) (cond (eqb v (c.volume m)) (or_else (shown c grains m) (grains v)) (grains v))

-- The physical grains after moves, first move first.
unfoldable pub grains_after : {G : Type 0} → Column → (ℕ → G) → List ℕ → ℕ → G
grains_after c grains [] = grains
grains_after c grains (m ∷ ms) = grains_after (moved c m (is_in_place c m)) (grains_after_move c grains m) ms

-- No live slot but `m` has a slot of `m`'s volume as holder: nobody else reads the volume's physical grain.
abbrev pub IsFree : Column → ℕ → Type 0
IsFree c m = (k h : ℕ) → k < c.count → c.is_live k ≡ true → k ≢ m → holder c k ≡ Some h → c.volume h ≢ c.volume m

-- A move is safe: its slot is live and lacks the grain, and out of place nobody else reads its volume's grain.
pub record IsSafeMove (c : Column) (m : ℕ) : Type 0 where
  pub there : m < c.count
  pub is_live : c.is_live m ≡ true
  pub lacks : c.held m ≡ false
  pub free : is_in_place c m ≡ false → IsFree c m

-- A write to the volume of live slot `t` is safe: nobody else reads its grain, and nobody waits behind it.
pub record IsSafeWrite (c : Column) (t : ℕ) : Type 0 where
  pub free : IsFree c t
  pub none_waits : next_behind c t ≡ None

-- Every live slot has a holder.
abbrev pub HasHolders : Column → Type 0
HasHolders c = (k : ℕ) → k < c.count → c.is_live k ≡ true → (h : ℕ) × (holder c k ≡ Some h)
