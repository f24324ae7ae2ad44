-- The writes and syncs that a disk is asked for, in their order, and which of them failed.
use Rattle.std.specs.Prelude.{◌⊎◌, ℕ, Bool, true, false, List, [], ◌∷◌}

-- what a disk is asked for: to write these bytes from this place on, or to sync
pub data DiskCall : Type 0 where
  Writes : ℕ → List ℕ → DiskCall
  Syncs : DiskCall

-- a call that was made, and whether it failed
pub record Made : Type 0 where
  pub call : DiskCall
  pub failed : Bool

-- one call alone
abbrev pub one_made : DiskCall → Bool → List Made
one_made call failed = record { call = call; failed = failed } ∷ []

-- all of these calls, each of them answered Ok
abbrev pub all_made : List DiskCall → List Made
all_made [] = []
all_made (call ∷ calls) = record { call = call; failed = false } ∷ all_made calls

-- The first of these calls, each answered Ok, up to one that failed, and no other.
abbrev pub AreCutShort : (List Made → Type 0) → List DiskCall → Type 0
AreCutShort were [] = ⊥
AreCutShort were (call ∷ calls) = were (one_made call true) ⊎ AreCutShort (λ made. were (record { call = call; failed = false } ∷ made)) calls
