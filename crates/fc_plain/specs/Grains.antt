-- What a grain holds.
use Rattle.std.specs.Prelude.{ℕ, List, Option, Some, None}
use Rattle.fc_entry.specs.Picture.{Content, Bytes, Lost}

-- bytes, or nothing that can be read
abbrev pub content_of : Option (List ℕ) → Content
content_of (Some bytes) = Bytes bytes
content_of None = Lost
