-- What is drawn of an entry.
use Rattle.std.specs.Prelude.{Option, List, option_map}
use Rattle.fc_base.specs.Sheet.{Slot}
use Rattle.fc_entry.specs.declared.entry.Entry.{Entry}
use Rattle.fc_drawing.specs.Reasons.{Explained, explained_of}
use Rattle.fc_drawing.specs.declared.drawing.Drawing.{Drawing}
use Rattle.fc_drawing.specs.declared.sources.Source.{Source}

-- The entry, the slots of all chains after it, from whom each of its moves copied, and why it read its bytes.
pub record Drawn : Type 0 where
  pub entry : Entry
  pub slots : List Slot
  pub sources : List (Option Source)
  pub reason : Option Explained

abbrev pub drawn_of : Drawing → Drawn
drawn_of d = record { entry = d.entry.now; slots = d.sheet.now.slots; sources = d.sources.now; reason = option_map explained_of d.reason }
