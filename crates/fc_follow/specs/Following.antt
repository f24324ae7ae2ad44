-- What a lane is told that follows its incremental mappings.
use Rattle.std.specs.Prelude.{◌≡◌, ℕ, ◌<◌, ◌^◌, Bool, false, cond, fold, find, flat_map, map, All, Option, Some, None, List, [], ◌∷◌, ◌++◌}
use Rattle.std.specs.Option.{ForSome}
use Rattle.fc_base.specs.Room.{Room, rooms_after}
use Rattle.fc_base.specs.Sheet.{Slot, slot_at, mapping_place, volume_grains}
use Rattle.fc_base.specs.SheetFits.{FitsEvent}
use Rattle.fc_base.specs.declared.decision.LaneEvent.{LaneEvent}
use Rattle.fc_base.specs.declared.decision.LaneEvent.TheVariants.{Make, Remove, Trigger, Retire, Detach, Split, Force, Drop, Forget, NoteCut, Access, Work, Arm}
use Rattle.fc_base.specs.declared.ids.MapId.{MapId}
use Rattle.fc_base.specs.declared.request.Pair.{Pair}
use Rattle.fc_base.specs.declared.request.Side.{Side}
use Rattle.fc_base.specs.declared.request.Side.TheVariants.{Now, Under}
use Rattle.fc_base.specs.declared.request.Torn.{Torn}
use Rattle.fc_base.specs.declared.request.WritePart.{WritePart}
use Rattle.fc_books.specs.After.{begun}
use Rattle.fc_changed.specs.Notes.{Note}
use Rattle.fc_changed.specs.Notes.Note.{Began, Wrote, Left, Cut, Forgotten}
use Rattle.fc_changed.specs.Row.{Row, is_of, row_names, after_note, restart_in}
use Rattle.fc_entry.specs.Picture.{grain_of_block}
use Rattle.fc_entry.specs.declared.entry.Entry.{Entry}
use Rattle.fc_rules.specs.LaneFits.{HasDisk}
use Rattle.fc_rules.specs.LaneRight.{done_write, record_of}
use Rattle.fc_rules.specs.LaneTold.{LaneOf, LaneTold, grains_in, place_of, told_event, told_past}
use Rattle.fc_rules.specs.Rooms.{rooms_entry}

-- What a lane is told, what is kept of its incremental mappings, and which of its grains occupy memory.
pub record Followed : Type 0 where
  pub told : LaneTold
  pub rows : List Row
  pub rooms : List Room

-- ---- the notes of an event

-- A live slot that leaves its chain, told with what it holds.
abbrev pub slot_leaves : List Slot → Option ℕ → List Note
slot_leaves slots None = []
slot_leaves slots (Some k) = cond (slot_at slots k).is_live (Left (slot_at slots k).volume (slot_at slots k).held ∷ []) []

abbrev pub leaving : List Slot → MapId → List Note
leaving slots m = slot_leaves slots (mapping_place slots m.0)

abbrev pub beginning : List Slot → Pair → Note
beginning slots p = Began p.map.0 p.source.0 p.target.0 (cond p.incremental (Some (volume_grains slots p.target.0)) None)

abbrev pub event_notes : List Slot → LaneEvent → List Note
event_notes slots (Make volume grains kind) = []
event_notes slots (Remove volume) = []
event_notes slots (Trigger pairs) = map (beginning slots) pairs
event_notes slots (Retire m) = leaving slots m
event_notes slots (Detach m) = leaving slots m
event_notes slots (Split m) = leaving slots m
event_notes slots (Force m dependents) = leaving slots m ++ flat_map (leaving slots) dependents
event_notes slots (Drop slot) = []
event_notes slots (Forget m) = Forgotten m.0 ∷ []
event_notes slots (NoteCut m source target) = Cut target.0 ∷ []
event_notes slots (Access volume access) = []
event_notes slots (Work m copies cleans) = []
event_notes slots (Arm volume grain calls) = []

abbrev pub rows_event : List Slot → List Row → LaneEvent → List Row
rows_event slots rows e = fold after_note rows (event_notes slots e)

-- ---- the notes of an entry

-- What was written, and what a failed write spoiled of what the volume shows.
abbrev pub write_notes : LaneOf → Option WritePart → List Note
write_notes l None = []
write_notes l (Some part) = Wrote part.volume.0 (place_of l (grain_of_block l.grain part.block)) ∷ []

abbrev pub side_notes : LaneOf → Torn → Side → List Note
side_notes l torn Now = Wrote torn.volume.0 (place_of l torn.grain.0) ∷ []
side_notes l torn Under = []

abbrev pub torn_notes : LaneOf → Option Torn → List Note
torn_notes l None = []
torn_notes l (Some torn) = side_notes l torn torn.side

abbrev pub rows_entry : LaneOf → List Row → Entry → List Row
rows_entry l rows entry =
    fold after_note rows (write_notes l (done_write entry.request entry.reply) ++ torn_notes l entry.torn)

-- ---- what is told

-- The restart set of each mapping.
abbrev pub restarts : List Row → ℕ → List Bool
restarts rows m = restart_in m rows

-- As without incremental mappings; but the new slots of a trigger hold their restart sets.
abbrev pub told_with : (ℕ → List Bool) → LaneOf → LaneTold → LaneEvent → LaneTold
told_with restarts l told (Trigger pairs) =
    record (told_event l told (Trigger pairs)) { sheet = fold (begun restarts) (told_event l told (Trigger pairs)).sheet pairs }
told_with restarts l told e = told_event l told e

-- By what was noted before the event.
abbrev pub followed_event : LaneOf → Followed → LaneEvent → Followed
followed_event l f e =
    record {
      told = told_with (restarts f.rows) l f.told e;
      rows = rows_event f.told.sheet.slots f.rows e;
      rooms = rooms_after (grains_in l) f.rooms e;
    }

abbrev pub followed_entry : LaneOf → Followed → Entry → Followed
followed_entry l f entry =
    record {
      told = told_past l f.told (record_of entry);
      rows = rows_entry l f.rows entry;
      rooms = rooms_entry l f.told.picture f.rooms entry;
    }

-- ---- which events fit

-- A mapping that is followed is triggered from its source to its target alone, and a volume that goes is named by none.
abbrev pub IsOfPair : Pair → Row → Type 0
IsOfPair p row = (row.source ≡ p.source.0) × (row.target ≡ p.target.0)

abbrev pub FitsRows : List Row → LaneEvent → Type 0
FitsRows rows (Trigger pairs) = All (λ (p : Pair). ForSome (find (is_of p.map.0) rows) (IsOfPair p)) pairs
FitsRows rows (Remove volume) = All (λ row. row_names row volume.0 ≡ false) rows
FitsRows rows e = Unit {0}

-- Events fit one after the other, and the births after them are below 2^64.
abbrev pub FitsFollowed : LaneOf → Followed → List LaneEvent → Type 0
FitsFollowed l f [] = f.told.sheet.births < 2 ^ 64
FitsFollowed l f (e ∷ es) =
    FitsEvent f.told.sheet e × HasDisk f.told e × FitsRows f.rows e × FitsFollowed l (followed_event l f e) es

-- Only the first of the events is a trigger, if one is.
abbrev pub IsNoTrigger : LaneEvent → Type 0
IsNoTrigger (Trigger pairs) = ⊥
IsNoTrigger event = Unit {0}

abbrev pub TriggersFirst : List LaneEvent → Type 0
TriggersFirst [] = Unit {0}
TriggersFirst (e ∷ es) = All IsNoTrigger es
