-- How far a writer is: at rest, or in the middle of a batch or a fold.
use Rattle.std.specs.Prelude.{◌≡◌, ℕ, ◌+◌, Bool, true, false, List, Result, Ok, Err}
use Rattle.fc_image.specs.declared.record.MetaRecord.{MetaRecord}
use Rattle.fc_image.specs.declared.image.MetaImage.{MetaImage}
use Rattle.fc_metadisk.specs.Disk.{Only}
use Rattle.fc_format.specs.declared.half.Half.{Half}
use Rattle.fc_format.specs.Halves.{Found, Image, recovered, half_size, half_start, other_half}
use Rattle.fc_meta.specs.declared.error.MetaError.{MetaError}
use Rattle.fc_meta.specs.declared.error.RecoverError.{RecoverError}
use Rattle.fc_meta.specs.declared.meta.Meta.{Meta}
use Rattle.fc_meta.specs.Standing.{Rests, IsStagedBatch, IsStagedImage}
use Rattle.fc_meta.specs.Answers.{with_gate}
use Rattle.fc_meta.specs.Recovering.{IsCause}

-- ---- What callers see of a writer

abbrev pub disk_of : {D : Type 0} → Meta D → D
disk_of meta = meta.disk

-- the half that is read
abbrev pub read_half : {D : Type 0} → Meta D → Half
read_half meta = meta.half

-- whether the gate of the other half is open
abbrev pub other_open : {D : Type 0} → Meta D → Bool
other_open meta = meta.other_is_open

-- the generation of the image that is read
abbrev pub generation_of : {D : Type 0} → Meta D → ℕ
generation_of meta = meta.generation

-- the bytes of its half that stand before the closed gate
abbrev pub used_of : {D : Type 0} → Meta D → ℕ
used_of meta = meta.used

-- so many once the batch that waits is synced, or the half that was filled is turned to
abbrev pub next_of : {D : Type 0} → Meta D → ℕ
next_of meta = meta.next

-- where a writer stands
pub record Head : Type 0 where
  pub half : Half
  pub generation : ℕ
  pub used : ℕ
  pub other_is_open : Bool

abbrev pub head_of : {D : Type 0} → Meta D → Head
head_of meta = record { half = meta.half; generation = meta.generation; used = meta.used; other_is_open = meta.other_is_open }

-- with a batch of so many bytes more
abbrev pub head_with : ℕ → Head → Head
head_with bytes head = record head { used = head.used + bytes }

-- turned to the other half, in which so many bytes stand
abbrev pub head_turned : ℕ → Head → Head
head_turned used head = record { half = other_half head.half; generation = head.generation + 1; used = used; other_is_open = true }

module _ {D : Type 0} (seen : D → List ℕ) where
  -- the bytes of a half
  abbrev pub room_of : Meta D → ℕ
  room_of meta = half_size (seen meta.disk)

  -- the places at which the half that is read begins, and the other one
  abbrev pub start_now : Meta D → ℕ
  start_now meta = half_start meta.half (seen meta.disk)

  abbrev pub other_start : Meta D → ℕ
  other_start meta = half_start (other_half meta.half) (seen meta.disk)

  -- what the disk stands for
  abbrev pub found : Meta D → Found
  found meta = recovered (seen meta.disk)

  -- what it stands for once the gate of the batch that waits is open
  abbrev pub awaited : Meta D → Found
  awaited meta = recovered (with_gate meta.half meta.used (seen meta.disk))

  -- what it stands for once the gate of the half that was filled is open
  abbrev pub filled : Meta D → Found
  filled meta = recovered (with_gate (other_half meta.half) 0 (seen meta.disk))

-- the disk behind `open`
abbrev pub opened_disk : {D : Type 0} → Result (Meta D) (D × MetaError) → D
opened_disk (Ok meta) = meta.disk
opened_disk (Err e) = e.0

-- the disk behind `recover`
abbrev pub recovered_disk : {D : Type 0} → Result (Meta D × MetaImage) (D × RecoverError) → D
recovered_disk (Ok p) = p.0.disk
recovered_disk (Err e) = e.0

-- What `recover` answers of what is found. A failed disk and want of memory alone say nothing of it.
abbrev pub IsAnswer : {D : Type 0} → Found → Result (Meta D × MetaImage) (D × RecoverError) → Type 0
IsAnswer f (Ok p) = f ≡ Image p.1
IsAnswer f (Err e) = IsCause f e.1

-- ---- The states

-- The disk stands for an image, all of it synced.
pub record IsResting {D : Type 0} (seen : D → List ℕ) (may_leave : D → List ℕ → Type 0) (meta : Meta D) : Type 0 where
  pub image : MetaImage
  pub rests : Rests meta.half meta.generation meta.used meta.other_is_open image (seen meta.disk)
  pub durable : Only (seen meta.disk) (may_leave meta.disk)

-- The disk stands for an image. A batch stands behind its closed gate, and a crash leaves the image without it.
pub record IsWaiting {D : Type 0} (seen : D → List ℕ) (may_leave : D → List ℕ → Type 0) (meta : Meta D) : Type 0 where
  pub image : MetaImage
  pub records : List MetaRecord
  pub rests : Rests meta.half meta.generation meta.used meta.other_is_open image (seen meta.disk)
  pub staged : IsStagedBatch meta.half meta.used meta.next records (seen meta.disk)
  pub each : (c : List ℕ) → may_leave meta.disk c → recovered c ≡ Image image

-- The disk stands for an image, the gate of the other half is closed, all of it synced.
pub record IsCleared {D : Type 0} (seen : D → List ℕ) (may_leave : D → List ℕ → Type 0) (meta : Meta D) : Type 0 where
  pub image : MetaImage
  pub shut : meta.other_is_open ≡ false
  pub rests : Rests meta.half meta.generation meta.used meta.other_is_open image (seen meta.disk)
  pub durable : Only (seen meta.disk) (may_leave meta.disk)

-- The same, and another image stands behind that gate, of the next generation.
pub record IsFilled {D : Type 0} (seen : D → List ℕ) (may_leave : D → List ℕ → Type 0) (meta : Meta D) : Type 0 where
  pub image : MetaImage
  pub next_image : MetaImage
  pub shut : meta.other_is_open ≡ false
  pub rests : Rests meta.half meta.generation meta.used meta.other_is_open image (seen meta.disk)
  pub staged : IsStagedImage (other_half meta.half) (meta.generation + 1) meta.next next_image (seen meta.disk)
  pub durable : Only (seen meta.disk) (may_leave meta.disk)
