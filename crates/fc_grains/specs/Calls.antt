-- What the calls of disks leave.
use Rattle.std.specs.Prelude.{◌≡◌, ℕ, ◌==◌, Bool, true, false, List, ◌∷◌, [], ◌++◌, drop, length, map, replicate, is_some, IfSome, Option, Some, Result, Ok, Err}
use Rattle.std.specs.Bool.{OnFalse}
use Rattle.std.specs.List.{remove}
use Rattle.fc_base.specs.Count.{one_more, FaultsAfter}
use Rattle.fc_base.specs.Grain.{grain_bytes}
use Rattle.fc_base.specs.Pools.{pool_without}
use Rattle.fc_base.specs.Room.{new_reached}
use Rattle.fc_base.specs.declared.disk.DiskError.{DiskError}
use Rattle.fc_mdisk.specs.Disk.{DiskState, write_failed, MayAnswer, cleared}
use Rattle.fc_mdisk.specs.Disks.{disk_at}
use Rattle.fc_entry.specs.Picture.{Bytes, zeros}
use Rattle.fc_grains.specs.Grains.{GrainsState, NewVolume, next_of, next_place}
use Rattle.fc_grains.specs.Volumes.{volume_of, stored, changed, called, after_write, without, HoldsGrains}
use Rattle.fc_grains.specs.declared.copy_error.CopyError.{CopyError}
use Rattle.fc_grains.specs.declared.copy_error.CopyError.TheVariants.{Read, Write}

-- One call of a disk with this armed fault was made.
pub record CallsOnce (due : Option ℕ) (old : GrainsState) (failed : Bool) (new : GrainsState) : Type 0 where
  pub calls : new.calls ≡ one_more old.calls
  pub faults : FaultsAfter (is_some due) failed old.faults new.faults
  pub fails_as_told : IfSome due (λ n. failed ≡ (n == 1))

-- A grain was read into the buffer, unless this failed, and then the buffer may hold anything.
pub record HasRead (old : GrainsState) (volume place : ℕ) (failed : Bool) (new : GrainsState) : Type 0 where
  pub bytes : OnFalse failed (stored old.volumes volume place ≡ Bytes new.buffer)
  pub size : length new.buffer ≡ grain_bytes old.grain
  pub call : CallsOnce (volume_of old.volumes volume).due old failed new
  -- nothing else changed
  pub rest : new ≡ record old { volumes = changed volume called old.volumes; buffer = new.buffer; calls = new.calls; faults = new.faults }

-- The buffer was written to a grain. Only a thin disk wants memory.
pub record HasWritten {A : Type 0} (old : GrainsState) (volume place : ℕ) (answer : Result A DiskError) (new : GrainsState) : Type 0 where
  pub call : CallsOnce (volume_of old.volumes volume).due old (write_failed answer) new
  pub write_faults : FaultsAfter (is_some (volume_of old.volumes volume).due) (write_failed answer) old.write_faults new.write_faults
  pub allowed : MayAnswer (volume_of old.volumes volume).kind answer
  -- nothing else changed
  pub rest : new ≡ record old {
    volumes = changed volume (after_write answer place old.buffer) old.volumes;
    calls = new.calls;
    faults = new.faults;
    write_faults = new.write_faults;
  }

-- A grain of one volume was read and written to the other; or the read failed; or it was done and the write wasn't.
abbrev pub HasCopied : {A : Type 0} → GrainsState → ℕ → ℕ → ℕ → Result A CopyError → GrainsState → Type 0
HasCopied {A} old from to place (Ok a) new =
    (mid : GrainsState) × HasRead old from place false mid × HasWritten {A = A} mid to place (Ok a) new
HasCopied {A} old from to place (Err Read) new = HasRead old from place true new
HasCopied {A} old from to place (Err (Write error)) new =
    (mid : GrainsState) × HasRead old from place false mid × HasWritten {A = A} mid to place (Err error) new

-- Disks of the pool were made ready for volumes to come: each is as it was, but for its grains.
pub record HasReadied (old : GrainsState) (reserved : List NewVolume) (new : GrainsState) : Type 0 where
  pub pooled : map cleared new.pooled ≡ map cleared old.pooled
  pub rest : new ≡ record old { reserved = reserved; pooled = new.pooled }

-- A volume went: its disk was put aside, without its grains.
pub record HasRemoved (old : GrainsState) (volume : ℕ) (new : GrainsState) : Type 0 where
  pub disk : DiskState
  pub held : HoldsGrains (volume_of old.volumes volume) disk
  pub removed : new ≡ record old { volumes = without volume old.volumes; aside = old.aside ++ cleared disk ∷ [] }

-- The next new volume was made, with zeros, over the first disk of its kind in the pool, with no armed fault.
pub record HasMade (old : GrainsState) (volume : ℕ) (new : GrainsState) : Type 0 where
  pub due : Option ℕ
  pub due_is : due ≡ (disk_at old.pooled (next_place old.reserved old.pool)).due
  pub unarmed : IfSome due (λ n. n ≡ 0)
  pub told : old.silent ≡ 0 → due ≡ Some 0
  pub made : new ≡ record old {
    volumes = old.volumes ++ record {
      volume = record { 0 = volume };
      kind = (next_of old.reserved).kind;
      contents = replicate (next_of old.reserved).grains (zeros old.grain);
      reached = new_reached (next_of old.reserved).kind (next_of old.reserved).grains;
      due = due;
    } ∷ [];
    pool = pool_without (next_of old.reserved).kind old.pool;
    reserved = drop 1 old.reserved;
    pooled = remove old.pooled (next_place old.reserved old.pool);
  }
