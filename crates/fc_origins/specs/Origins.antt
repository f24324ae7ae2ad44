-- By which write each byte of plain volumes came: what plain volumes hold after the same history, in which each write writes its
-- own number. So an origin goes wherever the byte goes: with a trigger to the targets, with a cut back to what lay under a copy,
-- and by a move nowhere. A byte that no write made has the origin 0, and one of the write of entry n the origin n + 1.
use Rattle.std.specs.Prelude.{ℕ, ◌+◌, fold, List, [], Option, Some, None}
use Rattle.fc_base.specs.declared.request.Request.{Request}
use Rattle.fc_base.specs.declared.request.Request.TheVariants.{Write}
use Rattle.fc_base.specs.declared.size.GrainSize.{GrainSize}
use Rattle.fc_check_picture.specs.Blocks.{marked_part}
use Rattle.fc_entry.specs.Picture.{Picture}
use Rattle.fc_entry.specs.PlainStep.{plain_step}
use Rattle.fc_entry.specs.declared.entry.Entry.{Entry}

-- The origin of bytes that came by the write of this entry, or by none.
abbrev pub origin_of : Option ℕ → ℕ
origin_of None = 0
origin_of (Some entry) = entry + 1

-- A write that writes the origin of its entry.
abbrev pub marked_request : ℕ → Request → Request
marked_request number (Write part) = Write (marked_part (number + 1) part)
marked_request number request = request

abbrev pub marked : Entry → Entry
marked entry = record entry { request = marked_request entry.number entry.request }

-- The origins after one more entry, and after all entries.
abbrev pub origin_step : GrainSize → Picture → Entry → Picture
origin_step grain origins entry = plain_step grain origins (marked entry)

abbrev pub origins_of : GrainSize → List Entry → Picture
origins_of grain entries = fold (origin_step grain) [] entries
