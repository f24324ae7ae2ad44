-- Grains told by one number for each of their blocks.
use Rattle.std.specs.Prelude.{ℕ, ◌*◌, List, [], ◌∷◌, ◌++◌, drop, replicate, take, Option, Some, None}
use Rattle.fc_base.specs.Grain.{block_bytes}
use Rattle.fc_base.specs.declared.request.WritePart.{WritePart}
use Rattle.fc_base.specs.declared.runs.Run.{Run}
use Rattle.fc_entry.specs.Picture.{Content, Bytes, Lost}

-- The bytes of blocks of so many bytes, each filled with one number.
abbrev pub filled : ℕ → List ℕ → List ℕ
filled size [] = []
filled size (number ∷ numbers) = replicate size number ++ filled size numbers

-- What a grain holds whose blocks are filled with these numbers; with none it is lost.
abbrev pub content_of : Option (List ℕ) → Content
content_of (Some blocks) = Bytes (filled block_bytes blocks)
content_of None = Lost

-- A part of a grain: `length` bytes from the byte `from` on. A part of a lost grain is lost.
abbrev pub part_of : ℕ → ℕ → Content → Content
part_of from length (Bytes bytes) = Bytes (take length (drop from bytes))
part_of from length Lost = Lost

-- The write of the same blocks with this number.
abbrev pub marked_part : ℕ → WritePart → WritePart
marked_part number part = record part { byte = number }

-- A run of blocks as a run of their bytes.
abbrev pub widened : ℕ → Run → Run
widened size run = record { count = run.count * size; byte = run.byte }
