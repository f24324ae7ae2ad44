-- What a disk of two halves stands for.
use Rattle.std.specs.Prelude.{ℕ, zero, suc, ◌+◌, ◌/◌, Bool, true, false, ◌&&◌, ◌==◌, nat_le, if◌then◌else◌, List, [], ◌++◌, length, take, drop, slice_index, Option, Some, None, Result, Ok, Err, ◌≡◌, ⊤}
use Rattle.byteorder.specs.Endian.{big_number}
use Rattle.fc_image.specs.declared.record.MetaRecord.{MetaRecord}
use Rattle.fc_image.specs.declared.image.MetaImage.{MetaImage}
use Rattle.fc_image.specs.Records.{after_records}
use Rattle.fc_format.specs.declared.cursor.ReadError.{ReadError}
use Rattle.fc_format.specs.declared.cursor.ReadError.TheVariants.{Damaged as DamagedAt, NoMemory}
use Rattle.fc_format.specs.declared.half.Half.{Half}
use Rattle.fc_format.specs.declared.half.Half.TheVariants.{First, Second}
use Rattle.fc_format.specs.Left.{Left, place, passed, first_byte}
use Rattle.fc_format.specs.Reading.{Reading, Got, Bad, Reader, and_then, counted}
use Rattle.fc_format.specs.Fields.{image, records}

-- ---- One half, behind its gate and generation

abbrev pub is_gate : Option ℕ → Bool
is_gate (Some gate) = true
is_gate None = false

abbrev pub opens : Option ℕ → Bool
opens (Some gate) = gate == 1
opens None = false

-- The batches whose gates are open, up to the first that is closed. Where the bytes end before a gate, they are damaged there.
-- As many batches are enough as there are bytes.
unfoldable pub batches_up_to : ℕ → Reader (List MetaRecord)
batches_up_to zero s = Bad (place s)
batches_up_to (suc n) s =
    if is_gate (first_byte s.bytes) then (if opens (first_byte s.bytes) then and_then (counted records (passed 1 s)) (λ rs s.
    and_then (batches_up_to n s) (λ more s. Got (rs ++ more) s)) else Got [] (passed 1 s)) else Bad (place s)

abbrev pub batches : Reader (List MetaRecord)
batches s = batches_up_to (length s.bytes) s

-- the image with the records of its open batches applied
unfoldable pub image_and_batches : Reader MetaImage
image_and_batches s = and_then (counted image s) (λ i s. and_then (batches s) (λ rs s. Got (after_records i rs) s))

-- What reading a half answers: its image, and how many bytes stand before its closed gate.
abbrev pub IsHalfRead : List ℕ → ℕ → Result (MetaImage × ℕ) ReadError → Type 0
IsHalfRead bytes end (Ok r) =
    (left : Left) × (image_and_batches (record { bytes = bytes; end = end }) ≡ Got r.0 left) × (r.1 + 1 + length left.bytes ≡ length bytes)
IsHalfRead bytes end (Err (DamagedAt at)) = image_and_batches (record { bytes = bytes; end = end }) ≡ Bad at
IsHalfRead bytes end (Err NoMemory) = ⊤

-- ---- The disk

-- what a disk stands for
pub data Found : Type 0 where
  -- no half has an open gate
  NoImage : Found
  -- the bytes at this place don't continue the format
  Damaged : ℕ → Found
  Image : MetaImage → Found

-- bytes before the length of the image: the gate and the generation
abbrev pub front : ℕ
front = 9

-- a half with fewer bytes has no gate
abbrev pub least_half : ℕ
least_half = 13

abbrev pub half_size : List ℕ → ℕ
half_size disk = length disk / 2

abbrev pub half_start : Half → List ℕ → ℕ
half_start First disk = 0
half_start Second disk = half_size disk

abbrev pub other_half : Half → Half
other_half First = Second
other_half Second = First

unfoldable pub half_of : Half → List ℕ → List ℕ
half_of half disk = take (half_size disk) (drop (half_start half disk) disk)

abbrev pub is_open : List ℕ → Bool
is_open half = nat_le least_half (length half) && (slice_index half 0 == 1)

abbrev pub generation : List ℕ → ℕ
generation half = big_number 8 (drop 1 half)

-- what an open half stands for, where so many bytes of the disk end with it
abbrev pub found_by : Reading MetaImage → Found
found_by (Got i left) = Image i
found_by (Bad at) = Damaged at

unfoldable pub found_in : ℕ → List ℕ → Found
found_in end half = found_by (image_and_batches (record { bytes = drop front half; end = end }))

abbrev pub found_at : Half → List ℕ → Found
found_at half disk = found_in (half_start half disk + half_size disk) (half_of half disk)

-- The open half of the greater generation, and the first half where two open ones have the same.
abbrev pub found_of : (first second : Bool) → (g h : ℕ) → List ℕ → Found
found_of false false g h disk = NoImage
found_of true false g h disk = found_at First disk
found_of false true g h disk = found_at Second disk
found_of true true g h disk = if nat_le h g then found_at First disk else found_at Second disk

unfoldable pub recovered : List ℕ → Found
recovered disk =
    found_of (is_open (half_of First disk)) (is_open (half_of Second disk)) (generation (half_of First disk)) (generation (half_of Second disk)) disk
