-- What a disk of metadata was asked for so far: how many calls there were, how full its half is, and whether anything passed it.
use Rattle.std.specs.Prelude.{◌≡◌, ℕ, ◌+◌, ◌-◌, ◌^◌, ◌≤◌, ◌||◌, Bool, nat_le, ltb, if◌then◌else◌, List, [], ◌∷◌, length, Option, Some, None}
use Rattle.fc_format.specs.Bytes.{batch_bytes, half_bytes}
use Rattle.fc_format.specs.Halves.{Image}
use Rattle.fc_image.specs.Records.{after_records}
use Rattle.fc_image.specs.declared.image.MetaImage.{MetaImage}
use Rattle.fc_image.specs.declared.record.MetaRecord.{MetaRecord}
use Rattle.fc_marks.specs.declared.error.NotedStop.{NotedStop}
use Rattle.fc_marks.specs.declared.error.NotedStop.TheVariants.{MetaFailed, MetaFull}
use Rattle.fc_meta.specs.Answers.{more_calls}
use Rattle.fc_meta.specs.States.{disk_of, found, generation_of, room_of, used_of}
use Rattle.fc_meta.specs.declared.meta.Meta.{Meta}

-- The image that the disk stands for and its generation, the bytes of the half before its closed gate, and how many writes and syncs
-- there were. Where an image or a batch passed the half: how many there were when that was seen, the first time.
pub record Meter : Type 0 where
  pub image : MetaImage
  pub generation : ℕ
  pub used : ℕ
  pub calls : ℕ
  pub full : Option ℕ

-- How many bytes a batch of a record takes; and those of a half in which an image stands alone, in whatever generation.
abbrev pub batch_size : MetaRecord → ℕ
batch_size note = length (batch_bytes (note ∷ []))

abbrev pub filled_size : MetaImage → ℕ
filled_size image = length (half_bytes 1 image)

-- With the gate before it an image passes a half of so many bytes; or its generation passes the last one.
abbrev pub passes_half : ℕ → ℕ → MetaImage → Bool
passes_half half generation image = nat_le (2 ^ 64 - 1) generation || ltb half (1 + filled_size image)

abbrev pub first_full : Option ℕ → Bool → ℕ → Option ℕ
first_full (Some at) passes calls = Some at
first_full None passes calls = if passes then Some calls else None

-- A batch is four calls: it is written and synced, and then its gate. A fold is six; its image is put behind the first two of them, which
-- close the gate of the other half.
abbrev pub with_batch : ℕ → MetaRecord → Meter → Meter
with_batch half note m = record {
  image = after_records m.image (note ∷ []);
  generation = m.generation;
  used = m.used + batch_size note;
  calls = m.calls + 4;
  full = first_full m.full (ltb half (m.used + 1 + batch_size note)) m.calls;
}

abbrev pub with_fold : ℕ → MetaImage → Meter → Meter
with_fold half image m = record {
  image = image;
  generation = m.generation + 1;
  used = filled_size image;
  calls = m.calls + 6;
  full = first_full m.full (passes_half half m.generation image) (m.calls + 2);
}

-- A batch begins behind the closed gate. Where it would pass the half, metadata is folded as it stands before it.
abbrev pub with_record : ℕ → MetaRecord → Meter → Meter
with_record half note m = if ltb half (m.used + 1 + batch_size note) then with_batch half note (with_fold half m.image m) else with_batch half note m

-- A disk stands for this image, so many bytes of its half are used, and nothing passed it.
pub record IsMetered {D : Type 0} (seen : D → List ℕ) (meta : Meta D) (m : Meter) : Type 0 where
  pub image : found seen meta ≡ Image m.image
  pub generation : generation_of meta ≡ m.generation
  pub used : used_of meta ≡ m.used
  pub fits : m.full ≡ None

-- A record was put, by so many calls as it costs.
pub record IsPut {D : Type 0} (seen : D → List ℕ) (calls : D → ℕ) (note : MetaRecord) (old new : Meta D) : Type 0 where
  pub metered : (m : Meter) → IsMetered seen old m → IsMetered seen new (with_record (room_of seen old) note m)
  pub counted : (m : Meter) → IsMetered seen old m →
      (made : ℕ) × (calls (disk_of new) ≡ more_calls made (calls (disk_of old))) × ((with_record (room_of seen old) note m).calls ≡ m.calls + made)

-- A count of calls after so many more at most.
abbrev pub IsCalledUpTo : ℕ → ℕ → ℕ → Type 0
IsCalledUpTo most old new = (made : ℕ) × (new ≡ more_calls made old) × (made ≤ most)

-- Up to so many calls nothing passed the half.
abbrev pub FitsUpTo : ℕ → Meter → Type 0
FitsUpTo calls m = (at : ℕ) → m.full ≡ Some at → calls ≤ at

-- Why it stopped behind so many calls: one of them failed, and nothing passed the half before; or that was seen then.
abbrev pub HasCause : NotedStop → ℕ → Meter → Type 0
HasCause MetaFailed calls m = FitsUpTo calls m
HasCause MetaFull calls m = m.full ≡ Some calls
HasCause stop calls m = Unit {0}

-- What was to be done, to a meter that is known, was cut short: there were as many calls as it costs at most.
abbrev pub IsCutShort : {D : Type 0} → (seen : D → List ℕ) (calls : D → ℕ) → NotedStop → Meta D → Meta D → (Meter → Meter) → Type 0
IsCutShort seen calls stop old new goes =
    (m : Meter) → IsMetered seen old m →
    (made : ℕ) × (calls (disk_of new) ≡ more_calls made (calls (disk_of old))) × (m.calls + made ≤ (goes m).calls) × HasCause stop (m.calls + made) (goes m)
