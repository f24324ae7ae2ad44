-- A disk that stands for an image, as bytes.
use Rattle.std.specs.Prelude.{◌≡◌, ◌⊎◌, ℕ, ◌+◌, ◌<◌, ◌≤◌, ◌^◌, Bool, true, false, ◌==◌, List, ◌++◌, length, take, drop, slice_index, All}
use Rattle.fc_image.specs.declared.record.MetaRecord.{MetaRecord}
use Rattle.fc_image.specs.declared.image.MetaImage.{MetaImage}
use Rattle.fc_image.specs.Records.{after_records}
use Rattle.fc_format.specs.declared.half.Half.{Half}
use Rattle.fc_format.specs.declared.half.Half.TheVariants.{First, Second}
use Rattle.fc_format.specs.Bytes.{batch_bytes, half_bytes}
use Rattle.fc_format.specs.Ranges.{IsTypedRecord, IsTypedImage, HasGoodIds}
use Rattle.fc_format.specs.Reading.{Got, and_then}
use Rattle.fc_format.specs.Halves.{batches, image_and_batches, front, is_open, generation, half_of, half_start, half_size, other_half}

-- ---- One half

-- The half's gate is open, it is of this generation, and it stands for the image, continued by the batches of its tail.
pub record IsReadAs (half tail : List ℕ) (end g : ℕ) (image : MetaImage) : Type 0 where
  pub gate : is_open half ≡ true
  pub kept : generation half ≡ g
  pub goes_on : image_and_batches (record { bytes = drop front half; end = end }) ≡ and_then (batches (record { bytes = tail; end = end })) (λ rs s. Got (after_records image rs) s)

-- Whatever stands in the half from `used` on, it is read as the image, continued by the batches of what stands there. A closed
-- gate does.
pub record Reads (half : List ℕ) (end g used : ℕ) (image : MetaImage) : Type 0 where
  pub inside : used < length half
  pub closed : (slice_index half used == 1) ≡ false
  pub each : (tail : List ℕ) → used + length tail ≡ length half → IsReadAs (take used half ++ tail) tail end g image

-- ---- The disk

-- Beside an open half of this generation the other one isn't read: it is closed or older. Beside the first half it may be as old.
abbrev pub IsBehind : Half → ℕ → List ℕ → Type 0
IsBehind First g other = (is_open other ≡ false) ⊎ (generation other ≤ g)
IsBehind Second g other = (is_open other ≡ false) ⊎ (generation other < g)

-- The disk stands for the image, by this half.
pub record Rests (half : Half) (g used : ℕ) (other_open : Bool) (image : MetaImage) (disk : List ℕ) : Type 0 where
  pub reads : Reads (half_of half disk) (half_start half disk + half_size disk) g used image
  pub behind : IsBehind half g (half_of (other_half half) disk)
  pub other : is_open (half_of (other_half half) disk) ≡ other_open

-- A batch stands behind the closed gate at `used`; `next` bytes stand before the closed gate behind it.
pub record IsStagedBatch (half : Half) (used next : ℕ) (records : List MetaRecord) (disk : List ℕ) : Type 0 where
  pub typed : All IsTypedRecord records
  pub counted : next ≡ used + length (batch_bytes records)
  pub small : length (half_of half disk) < 2 ^ 32
  pub tail : List ℕ
  pub stands : drop (used + 1) (half_of half disk) ≡ batch_bytes records ++ tail

-- An image stands behind the gate of a half, with this generation; `next` bytes stand before the closed gate of its first batch.
pub record IsStagedImage (half : Half) (g next : ℕ) (image : MetaImage) (disk : List ℕ) : Type 0 where
  pub typed : IsTypedImage image
  pub good : HasGoodIds image
  pub generated : g < 2 ^ 64
  pub counted : next ≡ length (half_bytes g image)
  pub small : length (half_of half disk) < 2 ^ 32
  pub tail : List ℕ
  pub stands : drop 1 (half_of half disk) ≡ half_bytes g image ++ tail
