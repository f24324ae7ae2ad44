-- What is kept after an entry of a lane.
use Rattle.std.specs.Prelude.{ℕ, ◌+◌, Option, Some, None, slice_set}
use Rattle.fc_base.specs.Sheet.{Sheet}
use Rattle.fc_base.specs.SheetStep.{sheet_written, sheet_torn}
use Rattle.fc_base.specs.declared.request.Torn.{Torn}
use Rattle.fc_base.specs.declared.request.WritePart.{WritePart}
use Rattle.fc_base.specs.declared.size.GrainSize.{GrainSize}
use Rattle.fc_entry.specs.Picture.{grain_of_block}
use Rattle.fc_entry.specs.PlainStep.{plain_step}
use Rattle.fc_entry.specs.declared.entry.Entry.{Entry}
use Rattle.fc_legal.specs.Whole.{single_lane}
use Rattle.fc_rules.specs.LaneRight.{done_write}
use Rattle.fc_rules.specs.LaneTold.{sheet_entry}
use Rattle.fc_check_lane.specs.Known.{Known}

-- The chains after a write that was done, and after a torn grain.
abbrev pub chains_written : GrainSize → Sheet → Option WritePart → Sheet
chains_written grain s None = s
chains_written grain s (Some part) = sheet_written part.volume.0 (grain_of_block grain part.block) s

abbrev pub chains_torn : Sheet → Option Torn → Sheet
chains_torn s None = s
chains_torn s (Some torn) = sheet_torn torn.volume.0 torn.grain.0 torn.side s

-- What the entry of this lane moved, wrote and tore, and its faults; and there is one more entry.
abbrev pub after_entry : Known → ℕ → Entry → Known
after_entry k i entry =
    record k {
      sheet = sheet_entry (single_lane k.grain) k.sheet (done_write entry.request entry.reply) entry.moves entry.torn;
      picture = plain_step k.grain k.picture entry;
      faults = slice_set k.faults i entry.faults_after;
      entries = k.entries + 1;
    }
