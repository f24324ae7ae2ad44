-- A disk as contracts see it, and what each call leaves of it.
use Rattle.std.specs.Prelude.{◌≡◌, ℕ, ◌-◌, ◌==◌, Bool, true, false, List, [], length, replicate, slice_set, slice_index_or, is_some, IfSome, Result, Ok, Err, Option}
use Rattle.std.specs.Option.{option_map}
use Rattle.std.specs.Bool.{OnFalse}
use Rattle.std.specs.List.{count_by}
use Rattle.fc_base.specs.Count.{one_more, FaultsAfter}
use Rattle.fc_base.specs.declared.disk.DiskKind.{DiskKind}
use Rattle.fc_base.specs.declared.disk.DiskKind.TheVariants.{Flat, Thin}
use Rattle.fc_base.specs.declared.disk.DiskError.{DiskError}
use Rattle.fc_base.specs.declared.disk.DiskError.TheVariants.{Failed, NoMemory}

-- All that is said of a disk.
pub record DiskState : Type 0 where
  pub kind : DiskKind
  -- the bytes of each grain
  pub grains : List (List ℕ)
  -- for each grain, whether it occupies memory: of a thin disk, whether a write reached it, also one that failed
  pub occupied : List Bool
  -- the reads and writes
  pub calls : ℕ
  -- the failures, and those of writes among them
  pub faults : ℕ
  pub write_faults : ℕ
  -- the armed fault, where the disk tells it: how many calls it is away, 0 for none
  pub due : Option ℕ

-- A disk as it is made: no grains, no calls.
abbrev pub blank : DiskKind → Option ℕ → DiskState
blank kind due =
    record { kind = kind; grains = []; occupied = []; calls = 0; faults = 0; write_faults = 0; due = due }

-- No call, no fault, nothing armed.
pub record IsFresh (disk : DiskState) : Type 0 where
  pub no_calls : disk.calls ≡ 0
  pub no_faults : disk.faults ≡ 0
  pub unarmed : IfSome disk.due (λ n. n ≡ 0)

-- The bytes of a grain.
abbrev pub grain_at : List (List ℕ) → ℕ → List ℕ
grain_at grains g = slice_index_or grains g []

-- How many grains occupy memory: all of a flat disk, and of a thin one those that a write reached.
abbrev pub used_as : DiskKind → List (List ℕ) → List Bool → ℕ
used_as Flat grains occupied = length grains
used_as Thin grains occupied = count_by (λ b. b) occupied

abbrev pub used_of : DiskState → ℕ
used_of disk = used_as disk.kind disk.grains disk.occupied

-- What a read and a write have in common: the counts, and the armed fault, which comes one call nearer.
pub record AfterCall (before : DiskState) (failed : Bool) (after : DiskState) : Type 0 where
  pub kind : after.kind ≡ before.kind
  pub calls : after.calls ≡ one_more before.calls
  pub faults : FaultsAfter (is_some before.due) failed before.faults after.faults
  pub due : after.due ≡ option_map (λ n. n - 1) before.due
  pub fails_as_told : IfSome before.due (λ n. failed ≡ (n == 1))

-- After a read: `out` is the grain unless it failed, and the disk holds what it held.
pub record AfterRead (before : DiskState) (g : ℕ) (failed : Bool) (out : List ℕ) (after : DiskState) : Type 0 where
  pub bytes : OnFalse failed (out ≡ grain_at before.grains g)
  pub grains : after.grains ≡ before.grains
  pub occupied : after.occupied ≡ before.occupied
  pub write_faults : after.write_faults ≡ before.write_faults
  pub call : AfterCall before failed after

abbrev pub write_failed : {A : Type 0} → Result A DiskError → Bool
write_failed (Ok _) = false
write_failed (Err Failed) = true
write_failed (Err NoMemory) = false

-- What a write leaves in its grain: the bytes; where it failed any bytes; without memory what was there.
abbrev pub GrainAfter : {A : Type 0} → Result A DiskError → List ℕ → List ℕ → List ℕ → Type 0
GrainAfter (Ok _) bytes old new = new ≡ bytes
GrainAfter (Err Failed) bytes old new = length new ≡ length bytes
GrainAfter (Err NoMemory) bytes old new = new ≡ old

-- Which grains occupy memory after a write: its grain does, unless there was no memory.
abbrev pub occupied_after : {A : Type 0} → Result A DiskError → List Bool → ℕ → List Bool
occupied_after (Ok _) occupied g = slice_set occupied g true
occupied_after (Err Failed) occupied g = slice_set occupied g true
occupied_after (Err NoMemory) occupied g = occupied

-- Which kinds of disk may answer so.
abbrev pub MayAnswer : {A : Type 0} → DiskKind → Result A DiskError → Type 0
MayAnswer kind (Ok _) = Unit {0}
MayAnswer kind (Err Failed) = Unit {0}
MayAnswer kind (Err NoMemory) = kind ≡ Thin

-- After a write: every other grain is as before.
pub record AfterWrite {A : Type 0} (before : DiskState) (g : ℕ) (bytes : List ℕ) (answer : Result A DiskError) (after : DiskState) : Type 0 where
  pub grain : GrainAfter answer bytes (grain_at before.grains g) (grain_at after.grains g)
  pub others : after.grains ≡ slice_set before.grains g (grain_at after.grains g)
  pub occupied : after.occupied ≡ occupied_after answer before.occupied g
  pub write_faults : FaultsAfter (is_some before.due) (write_failed answer) before.write_faults after.write_faults
  pub call : AfterCall before (write_failed answer) after
  pub allowed : MayAnswer before.kind answer

-- A disk formatted with so many grains of so many bytes: zeros, which occupy memory on a flat disk.
abbrev pub is_flat : DiskKind → Bool
is_flat Flat = true
is_flat Thin = false

abbrev pub formatted : DiskState → ℕ → ℕ → DiskState
formatted disk count bytes =
    record disk { grains = replicate count (replicate bytes 0); occupied = replicate count (is_flat disk.kind) }

-- A disk without grains.
abbrev pub cleared : DiskState → DiskState
cleared disk = record disk { grains = []; occupied = [] }

-- A disk whose armed fault is so many calls away, where it tells this at all.
abbrev pub armed : DiskState → ℕ → DiskState
armed disk calls = record disk { due = option_map (λ _. calls) disk.due }
