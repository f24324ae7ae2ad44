-- The books: all that decides commands.
use Rattle.std.specs.Prelude.{ℕ, List, [], ◌++◌, flat_map}
use Rattle.fc_base.specs.Pools.{Pool}
use Rattle.fc_base.specs.Room.{Room}
use Rattle.fc_base.specs.Sheet.{Sheet, no_slots}
use Rattle.fc_base.specs.Tables.{Tables, no_tables}
use Rattle.fc_base.specs.declared.decision.LaneEvent.{LaneEvent}
use Rattle.fc_base.specs.declared.request.Effect.{Effect}
use Rattle.fc_base.specs.declared.volume.Change.{Change}
use Rattle.fc_pick.specs.declared.work.WorkFlags.{WorkFlags}

-- The tables, and the id that the next volume, mapping and group will get; the chains of copies, at all grains of every
-- volume; the mappings with background work, by id; for each lane the disks that it has for new volumes; and which grains of
-- volumes occupy memory.
pub record Books : Type 0 where
  pub tables : Tables
  pub next_volume : ℕ
  pub next_mapping : ℕ
  pub next_group : ℕ
  pub sheet : Sheet
  pub flags : List WorkFlags
  pub pools : List Pool
  pub rooms : List Room

-- The books of a run that begins, with these disks. Groups are counted from 1.
abbrev pub opened_books : List Pool → Books
opened_books pools =
    record {
      tables = no_tables;
      next_volume = 0;
      next_mapping = 0;
      next_group = 1;
      sheet = no_slots;
      flags = [];
      pools = pools;
      rooms = [];
    }

-- A deed, a part of what a command does: the effects that the history tells, the events that lanes are told, and the
-- changes of the tables, each in their order.
pub record Deed : Type 0 where
  pub effects : List Effect
  pub events : List LaneEvent
  pub changes : List Change

abbrev pub nothing : Deed
nothing = record { effects = []; events = []; changes = [] }

-- Lanes are told this, and no more is done.
abbrev pub told : List LaneEvent → Deed
told events = record { effects = []; events = events; changes = [] }

-- One deed and then another, and all deeds of a list.
infixr 30 ◌then◌
abbrev pub ◌then◌ : Deed → Deed → Deed
first then second =
    record {
      effects = first.effects ++ second.effects;
      events = first.events ++ second.events;
      changes = first.changes ++ second.changes;
    }

abbrev pub all_deeds : {X : Type 0} → (X → Deed) → List X → Deed
all_deeds deed xs =
    record {
      effects = flat_map (λ x. (deed x).effects) xs;
      events = flat_map (λ x. (deed x).events) xs;
      changes = flat_map (λ x. (deed x).changes) xs;
    }
