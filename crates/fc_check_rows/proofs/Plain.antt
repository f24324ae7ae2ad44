-- What an entry tells of rows, over all grains.
use Rattle.std.proofs.Common.{◌≡◌, ℕ, Option, Some, None, List, ◌++◌, fold, refl, ap, ◌∙◌}
use Rattle.fc_base.specs.declared.request.Side.{Side}
use Rattle.fc_base.specs.declared.request.Side.TheVariants.{Now, Under}
use Rattle.fc_base.specs.declared.request.Torn.{Torn}
use Rattle.fc_base.specs.declared.request.WritePart.{WritePart}
use Rattle.fc_base.specs.declared.size.GrainSize.{GrainSize}
use Rattle.fc_changed.specs.Row.{Row, after_note}
use Rattle.fc_entry.specs.Picture.{grain_of_block}
use Rattle.fc_follow.specs.Following.{write_notes, side_notes, torn_notes}
use Rattle.fc_legal.specs.Whole.{single_lane}
use Rattle.fc_parts.proofs.Numbers.{all_place}
use Rattle.fc_check_rows.specs.Marks.{rows_wrote, rows_written, rows_spoiled, rows_torn}

spoiled_plain : (grain : GrainSize) (rows : List Row) (torn : Torn) (side : Side) → fold after_note rows (side_notes (single_lane grain) torn side) ≡ rows_spoiled rows torn side
spoiled_plain grain rows torn Now = ap (λ g. rows_wrote torn.volume.0 g rows) (all_place grain torn.grain.0)
spoiled_plain grain rows torn Under = refl

torn_plain : (grain : GrainSize) (rows : List Row) (torn : Option Torn) → fold after_note rows (torn_notes (single_lane grain) torn) ≡ rows_torn rows torn
torn_plain grain rows None = refl
torn_plain grain rows (Some torn) = spoiled_plain grain rows torn torn.side

-- its write and its torn grain
pub entry_plain : (grain : GrainSize) (rows : List Row) (write : Option WritePart) (torn : Option Torn) → fold after_note rows (write_notes (single_lane grain) write ++ torn_notes (single_lane grain) torn) ≡ rows_torn (rows_written grain rows write) torn
entry_plain grain rows None torn = torn_plain grain rows torn
entry_plain grain rows (Some part) torn =
    ap (λ g. fold after_note (rows_wrote part.volume.0 g rows) (torn_notes (single_lane grain) torn)) (all_place grain (grain_of_block grain part.block))
    ∙ torn_plain grain (rows_wrote part.volume.0 (grain_of_block grain part.block) rows) torn
