-- Marks of grains, and what is told over all grains.
use Rattle.std.specs.Prelude.{Bool, ◌&&◌, List, [], ◌++◌, length, Option, Some, None, fold}
use Rattle.fc_base.specs.declared.request.Reply.{Reply}
use Rattle.fc_base.specs.declared.request.Request.{Request}
use Rattle.fc_base.specs.declared.request.Side.{Side}
use Rattle.fc_base.specs.declared.request.Side.TheVariants.{Now, Under}
use Rattle.fc_base.specs.declared.request.Torn.{Torn}
use Rattle.fc_base.specs.declared.request.WritePart.{WritePart}
use Rattle.fc_base.specs.declared.size.GrainSize.{GrainSize}
use Rattle.fc_changed.specs.Notes.{has, grains_with}
use Rattle.fc_changed.specs.Row.{Row, row_wrote}
use Rattle.fc_entry.specs.Picture.{grain_of_block}
use Rattle.std.specs.Prelude.{map, ℕ}

-- The grains that are marked as the same and held.
abbrev pub same_and_held : List Bool → List Bool → List Bool
same_and_held same held = grains_with (λ g. has same g && has held g) (length same)

-- All rows after a grain of a volume was written; after a write that was done; and after a torn grain.
abbrev pub rows_wrote : ℕ → ℕ → List Row → List Row
rows_wrote volume grain rows = map (row_wrote volume grain) rows

abbrev pub rows_written : GrainSize → List Row → Option WritePart → List Row
rows_written grain rows None = rows
rows_written grain rows (Some part) = rows_wrote part.volume.0 (grain_of_block grain part.block) rows

abbrev pub rows_spoiled : List Row → Torn → Side → List Row
rows_spoiled rows torn Now = rows_wrote torn.volume.0 torn.grain.0 rows
rows_spoiled rows torn Under = rows

abbrev pub rows_torn : List Row → Option Torn → List Row
rows_torn rows None = rows
rows_torn rows (Some torn) = rows_spoiled rows torn torn.side
