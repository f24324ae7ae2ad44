-- What contracts see of the control part, and the books that it decides by.
use Rattle.std.specs.Prelude.{ℕ, List, Option}
use Rattle.fc_base.specs.SheetView.{SheetView}
use Rattle.fc_base.specs.Tables.{Tables}
use Rattle.fc_base.specs.declared.size.GrainSize.{GrainSize}
use Rattle.fc_base.specs.declared.volume.Change.{Change}
use Rattle.fc_books.specs.Books.{Books}
use Rattle.fc_pick.specs.declared.work.WorkFlags.{WorkFlags}

-- The grain size of the run; the tables, and the id that the next volume, mapping and group will get; the mappings with
-- background work, by id; and beside them the new object that the registry keeps room for, and how many more mappings with
-- background work fit with no memory.
pub record ControlState : Type 0 where
  pub grain : GrainSize
  pub tables : Tables
  pub next_volume : ℕ
  pub next_mapping : ℕ
  pub next_group : ℕ
  pub flags : List WorkFlags
  pub reserved : Option Change
  pub room : ℕ

-- The books: what the control part has, and the chains, disks and room that it asks for.
abbrev pub books_of : ControlState → SheetView → Books
books_of c view =
    record {
      tables = c.tables;
      next_volume = c.next_volume;
      next_mapping = c.next_mapping;
      next_group = c.next_group;
      sheet = view.sheet;
      flags = c.flags;
      pools = view.pools;
      rooms = view.rooms;
    }
