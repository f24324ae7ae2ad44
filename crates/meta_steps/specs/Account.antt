-- The account that a disk keeps of its calls.
use Rattle.std.specs.Prelude.{◌≡◌, Bool, true, List, ◌++◌, length, map}
use Rattle.fc_metadisk.specs.Calls.{DiskCall, Writes, Syncs, Made}
use Rattle.meta_steps.specs.declared.kept.Asked.{Asked}
use Rattle.meta_steps.specs.declared.kept.Asked.TheVariants.{Write, Sync}
use Rattle.meta_steps.specs.declared.kept.Kept.{Kept}

-- what is kept of a call
abbrev pub asked_for : DiskCall → Asked
asked_for (Writes at bytes) = Write at (length bytes)
asked_for Syncs = Sync

abbrev pub kept_of : Made → Kept
kept_of made = record { asked = asked_for made.call; failed = made.failed }

-- As long as the account is whole, it grows by these calls.
abbrev pub HasKept : (before : List Kept) (whole_before : Bool) → List Made → (after : List Kept) (whole_after : Bool) → Type 0
HasKept before whole_before made after whole_after = whole_after ≡ true → (whole_before ≡ true) × (after ≡ before ++ map kept_of made)
