-- The counts that are kept, with room for more.
use Rattle.std.specs.Prelude.{ℕ, ◌+◌, ◌≤◌, List, length}
use Rattle.fc_bits.specs.Words.{words_for}
use Rattle.fc_tallies.specs.declared.tally.Tally.{Tally}
use Rattle.fc_events.specs.Table.{Table}
use Rattle.fc_tallies.specs.Tallies.{AreTallies}

-- The counts by place, those past the last slot free for more slots, and how many words there are for a pass.
pub record Ledger : Type 0 where
  pub tallies : List Tally
  pub words : ℕ

-- The counts are those of the slots, and there is room for so many more slots of so many grains.
pub record IsCounted (table : Table) (ledger : Ledger) (room width : ℕ) : Type 0 where
  pub tallied : AreTallies table.sheet.slots ledger.tallies
  pub fits : length table.sheet.slots + room ≤ length ledger.tallies
  pub spare : room ≤ table.room
  pub wide : width ≤ table.width
  pub words : words_for table.width ≤ ledger.words
