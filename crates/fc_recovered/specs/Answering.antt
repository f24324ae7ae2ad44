-- How a read of a stopped store's volume is answered, and what it does to the disks.
use Rattle.std.specs.Prelude.{◌≡◌, ℕ, ◌*◌, ◌/◌, ◌%◌, ◌<◌, ◌≤◌, Bool, true, false, List, length, slice_index_or, slice_set, Some, None}
use Rattle.fc_base.specs.Grain.{block_bytes}
use Rattle.fc_base.specs.declared.disk.DiskKind.TheVariants.{Flat}
use Rattle.fc_base.specs.declared.request.ReadPart.{ReadPart}
use Rattle.fc_base.specs.declared.request.Reply.{Reply}
use Rattle.fc_base.specs.declared.request.Reply.TheVariants.{Bytes, DiskFault, MediumError, NoMemory, Offline, NotAccessible}
use Rattle.fc_base.specs.declared.size.GrainSize.{GrainSize}
use Rattle.fc_base.specs.declared.state.Access.{Access}
use Rattle.fc_base.specs.declared.state.Access.TheVariants.{Online, Offline as IsOffline, NotAccessible as IsNotAccessible}
use Rattle.fc_entry.specs.Picture.{Content, is_lost, byte_in_grain}
use Rattle.fc_entry.specs.Reads.{IsRightIn}
use Rattle.fc_mdisk.specs.Disk.{DiskState, AfterRead, blank, grain_at}
use Rattle.fc_kept.specs.Disks.{NamedDisk, disk_of}
use Rattle.fc_kept.specs.Recoverable.{disks_at}

-- ---- the answer

-- A volume that is online answers the bytes of its grain, as a canonical row of runs; a medium error exactly where the grain is
-- lost; a disk fault where the read of its disk failed; or it wants memory.
abbrev pub IsAnswerOf : GrainSize → ReadPart → Content → Reply → Type 0
IsAnswerOf grain part content (Bytes runs) = IsRightIn (byte_in_grain grain part.block) (block_bytes * part.count) content runs
IsAnswerOf grain part content MediumError = is_lost content ≡ true
IsAnswerOf grain part content DiskFault = is_lost content ≡ false
IsAnswerOf grain part content NoMemory = is_lost content ≡ false
IsAnswerOf grain part content reply = ⊥

-- A volume that isn't online answers how it may be reached.
abbrev pub IsAnswerBy : Access → GrainSize → ReadPart → Content → Reply → Type 0
IsAnswerBy Online grain part content reply = IsAnswerOf grain part content reply
IsAnswerBy (IsOffline map state) grain part content reply = reply ≡ Offline map state
IsAnswerBy (IsNotAccessible map) grain part content reply = reply ≡ NotAccessible map

-- ---- the disks

-- The disk at a place of a lane's.
abbrev pub no_disk : NamedDisk
no_disk = record { volume = None; disk = blank Flat None }

abbrev pub disk_in : List NamedDisk → ℕ → NamedDisk
disk_in disks p = slice_index_or disks p no_disk

-- A disk has the grain, of so many bytes; and so has a lane's disk of a volume.
pub record HasGrain (disk : DiskState) (g bytes : ℕ) : Type 0 where
  pub within : g < length disk.grains
  pub size : bytes ≡ length (grain_at disk.grains g)

pub record HasDiskGrain (disks : List NamedDisk) (v g bytes : ℕ) : Type 0 where
  pub disk : NamedDisk
  pub there : disk_of disks v ≡ Some disk
  pub within : g < length disk.disk.grains
  pub size : bytes ≡ length (grain_at disk.disk.grains g)

-- A lane's disk of a volume was read at a grain, and failed or not. It has no fewer calls.
pub record ReadsDisk (old : List NamedDisk) (v g : ℕ) (failed : Bool) (out : List ℕ) (new : List NamedDisk) : Type 0 where
  pub place : ℕ
  pub there : place < length old
  pub found : disk_of old v ≡ Some (disk_in old place)
  pub disk : DiskState
  pub read : AfterRead (disk_in old place).disk g failed out disk
  pub calls : (disk_in old place).disk.calls ≤ disk.calls
  pub is : new ≡ slice_set old place (record (disk_in old place) { disk = disk })

-- A volume's disk in the lane of a grain was read at the grain.
pub record ReadsGrain (old : List (List NamedDisk)) (v number : ℕ) (failed : Bool) (out : List ℕ) (new : List (List NamedDisk)) : Type 0 where
  pub reads : ReadsDisk (disks_at old (number % length old)) v (number / length old) failed out (disks_at new (number % length old))
  pub is : new ≡ slice_set old (number % length old) (disks_at new (number % length old))

-- One disk of some lane was read.
pub record ReadsOne (old : List (List NamedDisk)) (failed : Bool) (new : List (List NamedDisk)) : Type 0 where
  pub lane : ℕ
  pub within : lane < length old
  pub volume : ℕ
  pub grain : ℕ
  pub out : List ℕ
  pub reads : ReadsDisk (disks_at old lane) volume grain failed out (disks_at new lane)
  pub is : new ≡ slice_set old lane (disks_at new lane)

-- So where bytes are answered, or wanted memory alone, one read was done; a disk fault is one that failed, and is counted; any other
-- answer does nothing.
abbrev pub AfterReply : Reply → List (List NamedDisk) → List (List NamedDisk) → Type 0
AfterReply (Bytes runs) old new = ReadsOne old false new
AfterReply DiskFault old new = ReadsOne old true new
AfterReply NoMemory old new = ReadsOne old false new
AfterReply reply old new = new ≡ old
