-- Origins explain the bytes: each byte is that of the write by which it came.
use Rattle.std.specs.Prelude.{◌≡◌, ℕ, zero, suc, ◌+◌, fold, map, slice_get, Option, Some, None, List, [], ◌∷◌}
use Rattle.fc_base.specs.declared.request.Request.{Request}
use Rattle.fc_base.specs.declared.request.Request.TheVariants.{Write}
use Rattle.fc_base.specs.declared.size.GrainSize.{GrainSize}
use Rattle.fc_entry.specs.Picture.{Content, Bytes, Lost, PlainVolume, Picture}
use Rattle.fc_entry.specs.PlainStep.{plain_step}
use Rattle.fc_entry.specs.declared.entry.Entry.{Entry}
use Rattle.fc_origins.specs.Origins.{origins_of}

-- The byte that an entry wrote, if it did; and the byte of an origin, which is 0 where nothing was written.
abbrev pub byte_asked : Request → ℕ
byte_asked (Write part) = part.byte
byte_asked _ = 0

abbrev pub byte_of_entry : Option Entry → ℕ
byte_of_entry None = 0
byte_of_entry (Some entry) = byte_asked entry.request

abbrev pub byte_by : List Entry → ℕ → ℕ
byte_by entries zero = 0
byte_by entries (suc number) = byte_of_entry (slice_get entries number)

-- What is held where each origin stands for its byte.
abbrev pub content_by : (ℕ → ℕ) → Content → Content
content_by byte (Bytes origins) = Bytes (map byte origins)
content_by byte Lost = Lost

abbrev pub volume_by : (ℕ → ℕ) → PlainVolume → PlainVolume
volume_by byte v = record v { now = map (content_by byte) v.now; under = map (content_by byte) v.under }

abbrev pub picture_by : (ℕ → ℕ) → Picture → Picture
picture_by byte origins = map (volume_by byte) origins

-- The entries are numbered in their order, from this number on.
abbrev pub AreNumbered : ℕ → List Entry → Type 0
AreNumbered first [] = Unit {0}
AreNumbered first (entry ∷ entries) = (entry.number ≡ first) × AreNumbered (first + 1) entries

-- What plain volumes hold after a history is what the writes wrote by which each byte came.
pub record OriginLaw : Type 0 where
  pub bytes : (grain : GrainSize) (entries : List Entry) → AreNumbered 0 entries → fold (plain_step grain) [] entries ≡ picture_by (byte_by entries) (origins_of grain entries)
