-- What plain volumes hold: whole volumes as lists of grains, without chains and bitmaps.
use Rattle.std.specs.Prelude.{ℕ, ◌+◌, ◌*◌, ◌/◌, ◌%◌, Bool, true, false, ◌==◌, cond, List, [], ◌∷◌, ◌++◌, take, drop, map, replicate, slice_index_or, Option, Some, None}
use Rattle.fc_base.specs.Grain.{block_bytes, grain_bytes, grain_blocks}
use Rattle.fc_base.specs.declared.ids.VolId.{VolId}
use Rattle.fc_base.specs.declared.size.GrainSize.{GrainSize}

-- what a grain of a volume holds: bytes, or nothing that can be read, after a write that failed
pub data Content : Type 0 where
  Bytes : List ℕ → Content
  Lost : Content

-- whether a grain is lost
abbrev pub is_lost : Content → Bool
is_lost (Bytes _) = false
is_lost Lost = true

-- a volume: what it holds now, and what it held before its last trigger as a target
pub record PlainVolume : Type 0 where
  pub volume : VolId
  pub now : List Content
  pub under : List Content

-- all volumes
abbrev pub Picture : Type 0
Picture = List PlainVolume

-- a grain of zeros
abbrev pub zeros : GrainSize → Content
zeros grain = Bytes (replicate (grain_bytes grain) 0)

-- the volume with this id
abbrev pub volume_in : Picture → VolId → Option PlainVolume
volume_in [] id = None
volume_in (v ∷ vs) id = cond (v.volume.0 == id.0) (Some v) (volume_in vs id)

-- the picture with a change of the volume with this id
abbrev pub changed_at : VolId → (PlainVolume → PlainVolume) → Picture → Picture
changed_at id change picture = map (λ v. cond (v.volume.0 == id.0) (change v) v) picture

-- a grain of a list of grains; past its end none, which is told as lost
abbrev pub content_at : List Content → ℕ → Content
content_at grains g = slice_index_or grains g Lost

-- what a volume holds now at a grain; of a volume that isn't there, nothing
abbrev pub now_at : Option PlainVolume → ℕ → Content
now_at None g = Lost
now_at (Some v) g = content_at v.now g

-- the grain in which a block stands, and its first byte there
abbrev pub grain_of_block : GrainSize → ℕ → ℕ
grain_of_block grain block = block / grain_blocks grain

abbrev pub byte_in_grain : GrainSize → ℕ → ℕ
byte_in_grain grain block = block_bytes * (block % grain_blocks grain)

-- a grain whose bytes from `from` on, `length` of them, become one byte; a lost grain is written whole
abbrev pub written : ℕ → ℕ → ℕ → Content → Content
written from length byte (Bytes bytes) = Bytes (take from bytes ++ replicate length byte ++ drop (from + length) bytes)
written from length byte Lost = Bytes (replicate length byte)
