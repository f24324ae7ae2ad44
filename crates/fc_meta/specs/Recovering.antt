-- How a disk is read again.
use Rattle.std.specs.Prelude.{◌≡◌, ℕ, ◌+◌, true, false, nat_lt, if◌then◌else◌, List, length, drop, Option, Some, None, ⊤}
use Rattle.fc_image.specs.declared.image.MetaImage.{MetaImage}
use Rattle.fc_format.specs.declared.half.Half.{Half}
use Rattle.fc_format.specs.declared.half.Half.TheVariants.{First, Second}
use Rattle.fc_format.specs.Left.{Left}
use Rattle.fc_format.specs.Reading.{Got, Bad}
use Rattle.fc_format.specs.Halves.{Found, NoImage, Damaged, front, is_open, generation, half_of, half_start, half_size, image_and_batches}
use Rattle.fc_meta.specs.declared.error.RecoverError.{RecoverError}
use Rattle.fc_meta.specs.declared.error.RecoverError.TheVariants.{Failed as DiskFailed, NoMemory as WantsMemory, NoImage as HasNone, Damaged as DamagedAt}
use Rattle.fc_meta.specs.declared.recover.Current.{Current}

-- the generation of a half, if its gate is open
abbrev pub open_generation : List ℕ → Option ℕ
open_generation half = if is_open half then Some (generation half) else None

-- the half that is read, by the generations of the open ones
abbrev pub current_of : Option ℕ → Option ℕ → Option Current
current_of None None = None
current_of (Some g) None = Some (record { half = First; generation = g; other_is_open = false })
current_of None (Some h) = Some (record { half = Second; generation = h; other_is_open = false })
current_of (Some g) (Some h) =
    if nat_lt g h then Some (record { half = Second; generation = h; other_is_open = true }) else Some (record { half = First; generation = g; other_is_open = true })

-- why nothing was recovered: what is found, where that is the cause
abbrev pub IsCause : Found → RecoverError → Type 0
IsCause f HasNone = f ≡ NoImage
IsCause f (DamagedAt at) = f ≡ Damaged at
IsCause f DiskFailed = ⊤
IsCause f WantsMemory = ⊤

-- the half was read up to `used`
abbrev pub IsImageRead : Half → MetaImage → ℕ → List ℕ → Type 0
IsImageRead half i used disk =
    (left : Left) × (closed : ℕ) × (used ≡ front + closed)
    × (image_and_batches (record { bytes = drop front (half_of half disk); end = half_start half disk + half_size disk }) ≡ Got i left)
    × (closed + 1 + length left.bytes ≡ length (drop front (half_of half disk)))

-- why the half wasn't read
abbrev pub IsBadHalf : Half → List ℕ → RecoverError → Type 0
IsBadHalf half disk HasNone = ⊥
IsBadHalf half disk (DamagedAt at) = image_and_batches (record { bytes = drop front (half_of half disk); end = half_start half disk + half_size disk }) ≡ Bad at
IsBadHalf half disk DiskFailed = ⊤
IsBadHalf half disk WantsMemory = ⊤
