-- One way that all may have been told, as a judge keeps it.
use Rattle.std.specs.Prelude.{◌≡◌, ℕ, ◌*◌, ◌^◌, ◌≤◌, All, List, [], map}
use Rattle.fc_base.specs.Pools.{Pool}
use Rattle.fc_base.specs.Room.{Room}
use Rattle.fc_base.specs.declared.size.GrainSize.{GrainSize}
use Rattle.fc_changed.specs.Row.{Row}
use Rattle.fc_check_lane.specs.Known.{Known, size_of}
use Rattle.fc_desk.specs.Control.{ControlState}
use Rattle.fc_legal.specs.Whole.{Whole, volumes_told}

-- The grain size, and what is told. No actor has a name in it.
pub record Judged : Type 0 where
  pub grain : GrainSize
  pub whole : Whole

-- What is told, by the tables, next ids and background work of a control part, by what is kept for entries of
-- lanes, by the changed grains of incremental mappings, by the disks left for new volumes, by which grains occupy
-- memory, and by the calls of each lane.
abbrev pub whole_of : ControlState → Known → List Row → List Pool → List Room → List ℕ → Whole
whole_of c k rows pools rooms calls =
    record {
      actors = [];
      books = record {
        tables = c.tables;
        next_volume = c.next_volume;
        next_mapping = c.next_mapping;
        next_group = c.next_group;
        sheet = k.sheet;
        flags = c.flags;
        pools = pools;
        rooms = rooms;
      };
      picture = k.picture;
      rows = rows;
      faults = k.faults;
      calls = calls;
      entries = k.entries;
    }

-- No entry makes as many calls.
abbrev pub most_calls : ℕ
most_calls = 2 ^ 32

-- What is kept twice agrees: the grain size, the volumes with how hosts may reach them, how large they are, and
-- background work. And no lane has more calls than so many entries make.
pub record AreOne (c : ControlState) (k : Known) (calls : List ℕ) : Type 0 where
  pub grain : k.grain ≡ c.grain
  pub volumes : k.volumes ≡ volumes_told c.tables
  pub sizes : k.sizes ≡ map size_of c.tables.volumes
  pub flags : k.flags ≡ c.flags
  pub few : All (λ n. n ≤ k.entries * most_calls) calls
