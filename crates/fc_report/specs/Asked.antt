-- What reports are asked of.
use Rattle.std.specs.Prelude.{[]}
use Rattle.fc_base.specs.SheetView.{SheetView}
use Rattle.fc_base.specs.Tables.{Tables}
use Rattle.fc_books.specs.Books.{Books}

-- Books with these tables, and with the chains and the room of a sheet. No report tells of anything else.
abbrev pub asked : Tables → SheetView → Books
asked tables view =
    record {
      tables = tables;
      next_volume = 0;
      next_mapping = 0;
      next_group = 1;
      sheet = view.sheet;
      flags = [];
      pools = [];
      rooms = view.rooms;
    }
