-- Why a read gives its bytes.
use Rattle.std.specs.Prelude.{◌≡◌, ℕ, ◌*◌, ◌%◌, Option, Some, None, List, map, option_copied, option_map}
use Rattle.fc_base.specs.Column.{holder}
use Rattle.fc_base.specs.Grain.{block_bytes, grain_blocks}
use Rattle.fc_base.specs.Sheet.{Slot, column, live_place}
use Rattle.fc_base.specs.declared.request.ReadPart.{ReadPart}
use Rattle.fc_base.specs.declared.request.Reply.{Reply}
use Rattle.fc_base.specs.declared.request.Reply.TheVariants.{Bytes, MediumError}
use Rattle.fc_base.specs.declared.request.Request.{Request}
use Rattle.fc_base.specs.declared.request.Request.TheVariants.{Read}
use Rattle.fc_base.specs.declared.size.GrainSize.{GrainSize}
use Rattle.fc_check_picture.specs.Blocks.{content_of, part_of}
use Rattle.fc_entry.specs.Picture.{Picture, grain_of_block, now_at, volume_in}
use Rattle.fc_origins.specs.Blocks.{number_of}
use Rattle.fc_drawing.specs.declared.reason.Part.{Part}
use Rattle.fc_drawing.specs.declared.reason.Reason.{Reason}

-- Which blocks were read, the places of the volume's live slot and of the slot at which it reads, and by which writes the blocks came;
-- of a grain that was lost no writes are named.
pub record Explained : Type 0 where
  pub part : Part
  pub live : ℕ
  pub holder : ℕ
  pub origins : Option (List ℕ)

abbrev pub explained_of : Reason → Explained
explained_of r = record { part = r.part; live = r.live; holder = r.holder; origins = option_map (map number_of) (option_copied r.blocks) }

-- The volume's live slot reads at its holder, and the blocks came by these writes.
pub record IsReason (slots : List Slot) (origins : Picture) (part : Part) (e : Explained) : Type 0 where
  pub part_is : e.part ≡ part
  pub live_is : live_place slots part.volume.0 ≡ Some e.live
  pub holder_is : holder (column slots part.grain) e.live ≡ Some e.holder
  pub origins_are : content_of e.origins ≡ part_of (block_bytes * part.from) (block_bytes * part.count) (now_at (volume_in origins part.volume) part.grain)

-- There is none exactly where the volume has no live slot, or this has no holder.
abbrev pub IsTheReason : List Slot → Picture → Part → Option Explained → Type 0
IsTheReason slots origins part (Some e) = IsReason slots origins part e
IsTheReason slots origins part None = (k : ℕ) → live_place slots part.volume.0 ≡ Some k → holder (column slots part.grain) k ≡ None

-- ---- of an entry

-- what was read, where bytes were given, or would have been but for a grain that was lost
abbrev pub done_read : Request → Reply → Option ReadPart
done_read (Read part) (Bytes runs) = Some part
done_read (Read part) MediumError = Some part
done_read request reply = None

abbrev pub part_in : GrainSize → ReadPart → Part
part_in size read = record { volume = read.volume; grain = grain_of_block size read.block; from = read.block % grain_blocks size; count = read.count }

-- the reason of such a read, and none of any other entry
abbrev pub IsReasonOf : GrainSize → List Slot → Picture → Option ReadPart → Option Explained → Type 0
IsReasonOf size slots origins (Some read) explained = IsTheReason slots origins (part_in size read) explained
IsReasonOf size slots origins None explained = explained ≡ None
