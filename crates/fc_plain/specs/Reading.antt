-- What a read of plain volumes answers.
use Rattle.std.specs.Prelude.{◌≡◌, ℕ, zero, suc, ◌+◌, ◌<◌, ◌≤◌, List, [], ◌++◌, length, take, drop, Option, Some, None}
use Rattle.fc_base.specs.Grain.{block_bytes}
use Rattle.fc_base.specs.Runs.{expanded, IsCanonical}
use Rattle.fc_base.specs.declared.ids.VolId.{VolId}
use Rattle.fc_base.specs.declared.size.GrainSize.{GrainSize}
use Rattle.fc_entry.specs.Picture as picture
use Rattle.fc_entry.specs.Picture.{Content, PlainVolume, Picture, volume_in, now_at, grain_of_block, byte_in_grain}
use Rattle.fc_plain.specs.declared.reading.PlainRead.{PlainRead}
use Rattle.fc_plain.specs.declared.reading.PlainRead.TheVariants.{NoSuch, Lost, Bytes}

-- the volume is there, and each block from `block` on, `count` of them
abbrev pub AllThere : GrainSize → Option PlainVolume → ℕ → ℕ → Type 0
AllThere grain None block count = ⊥
AllThere grain (Some v) block count = (b : ℕ) → block ≤ b → b < block + count → grain_of_block grain b < length v.now

-- one of these blocks stands in a lost grain
abbrev pub SomeLost : GrainSize → Option PlainVolume → ℕ → ℕ → Type 0
SomeLost grain v block count = (b : ℕ) × (block ≤ b) × (b < block + count) × (now_at v (grain_of_block grain b) ≡ picture.Lost)

-- the bytes of a block that begins at `from` in its grain
abbrev pub bytes_at : ℕ → Content → List ℕ
bytes_at from (picture.Bytes bytes) = take block_bytes (drop from bytes)
bytes_at from picture.Lost = []

-- the bytes of a block
abbrev pub block_at : GrainSize → Option PlainVolume → ℕ → List ℕ
block_at grain v b = bytes_at (byte_in_grain grain b) (now_at v (grain_of_block grain b))

-- the bytes of the blocks from `block` on, `count` of them, in order
abbrev pub blocks_from : GrainSize → Option PlainVolume → ℕ → ℕ → List ℕ
blocks_from grain v block zero = []
blocks_from grain v block (suc count) = blocks_from grain v block count ++ block_at grain v (block + count)

-- what a read of so many blocks of a volume answers
abbrev pub IsReadOf : GrainSize → Option PlainVolume → ℕ → ℕ → PlainRead → Type 0
IsReadOf grain v block count NoSuch = AllThere grain v block count → ⊥
IsReadOf grain v block count Lost = AllThere grain v block count × SomeLost grain v block count
IsReadOf grain v block count (Bytes runs) =
    AllThere grain v block count × (SomeLost grain v block count → ⊥) × IsCanonical runs × (expanded runs ≡ blocks_from grain v block count)

-- the same of the volume with an id
abbrev pub IsPlainRead : GrainSize → Picture → VolId → ℕ → ℕ → PlainRead → Type 0
IsPlainRead grain picture id block count read = IsReadOf grain (volume_in picture id) block count read

-- an answer with these bytes
abbrev pub IsRunsOf : List ℕ → PlainRead → Type 0
IsRunsOf bytes NoSuch = ⊥
IsRunsOf bytes Lost = ⊥
IsRunsOf bytes (Bytes runs) = IsCanonical runs × (expanded runs ≡ bytes)
