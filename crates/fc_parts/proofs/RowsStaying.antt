-- Rows after an entry of a lane are those before it, but for their grains.
use Rattle.std.proofs.Common.{Option, Some, None, List, ◌++◌}
use Rattle.fc_base.specs.Tables.{Tables}
use Rattle.fc_base.specs.declared.request.Side.{Side}
use Rattle.fc_base.specs.declared.request.Side.TheVariants.{Now, Under}
use Rattle.fc_base.specs.declared.request.Torn.{Torn}
use Rattle.fc_base.specs.declared.request.WritePart.{WritePart}
use Rattle.fc_changed.specs.Row.{Row}
use Rattle.fc_entry.specs.declared.entry.Entry.{Entry}
use Rattle.fc_follow.specs.Following.{write_notes, side_notes, torn_notes, rows_entry}
use Rattle.fc_legal.proofs.Rows.{AreMild, mild_append, all_mild_rows}
use Rattle.fc_legal.specs.Stands.{AreRows}
use Rattle.fc_rules.specs.LaneRight.{done_write}
use Rattle.fc_rules.specs.LaneTold.{LaneOf}

written : (l : LaneOf) (write : Option WritePart) → AreMild (write_notes l write)
written l None = tt
written l (Some part) = (tt, tt)

side_written : (l : LaneOf) (torn : Torn) (side : Side) → AreMild (side_notes l torn side)
side_written l torn Now = (tt, tt)
side_written l torn Under = tt

torn_written : (l : LaneOf) (torn : Option Torn) → AreMild (torn_notes l torn)
torn_written l None = tt
torn_written l (Some torn) = side_written l torn torn.side

pub rows_stay : (l : LaneOf) (t : Tables) (rows : List Row) (entry : Entry) → AreRows t rows → AreRows t (rows_entry l rows entry)
rows_stay l t rows entry are =
    let write = done_write entry.request entry.reply in
    all_mild_rows t rows (write_notes l write ++ torn_notes l entry.torn)
    (mild_append (write_notes l write) (torn_notes l entry.torn) (written l write) (torn_written l entry.torn)) are
