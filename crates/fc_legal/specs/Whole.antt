-- What a history tells, kept from entry to entry; and the part of it that is one lane's.
use Rattle.std.specs.Prelude.{ℕ, ◌%◌, Bool, List, [], ◌∷◌, codes, length, map, replicate, slice_index_or}
use Rattle.std.specs.List.{range_with_len}
use Rattle.fc_base.specs.Pools.{Pool}
use Rattle.fc_base.specs.Room.{Room}
use Rattle.fc_base.specs.Sheet.{Slot, Sheet}
use Rattle.fc_base.specs.Tables.{Tables}
use Rattle.fc_base.specs.declared.size.GrainSize.{GrainSize}
use Rattle.fc_base.specs.declared.volume.Volume.{Volume}
use Rattle.fc_books.specs.Accesses.{access_in}
use Rattle.fc_books.specs.Books.{Books, opened_books}
use Rattle.fc_changed.specs.Row.{Row}
use Rattle.fc_entry.specs.Picture.{Lost, PlainVolume, Picture}
use Rattle.fc_follow.specs.Following.{Followed}
use Rattle.fc_rules.specs.LaneTold.{LaneOf, LaneVolume, LaneTold, grains_in, number_at}

-- The names of actors, by number; the books that decide commands; what plain volumes hold; what is kept of the changed grains
-- of incremental mappings; for each lane the faults of all disks that it ever had, and how many calls its entries made on them;
-- and how many entries there are.
pub record Whole : Type 0 where
  pub actors : List (List ℕ)
  pub books : Books
  pub picture : Picture
  pub rows : List Row
  pub faults : List ℕ
  pub calls : List ℕ
  pub entries : ℕ

-- Before the first entry, over these disks for new volumes, lane by lane. The one actor is `main`.
abbrev pub opened : List Pool → Whole
opened pools =
    record {
      actors = codes "main" ∷ [];
      books = opened_books pools;
      picture = [];
      rows = [];
      faults = replicate (length pools) 0;
      calls = replicate (length pools) 0;
      entries = 0;
    }

-- How many lanes there are. A grain belongs to the lane that its number leaves when divided by it.
abbrev pub lanes : Whole → ℕ
lanes w = length w.faults

abbrev pub lane_of_grain : Whole → ℕ → ℕ
lane_of_grain w number = number % lanes w

-- ---- all grains as one lane

-- The one lane that has every grain.
abbrev pub single_lane : GrainSize → LaneOf
single_lane grain = record { lane = 0; lanes = 1; grain = grain }

-- A volume, and how hosts reach it.
abbrev pub volume_told : Tables → Volume → LaneVolume
volume_told t v = record { volume = v.id; kind = v.kind; access = access_in t v.id }

abbrev pub volumes_told : Tables → List LaneVolume
volumes_told t = map (volume_told t) t.volumes

-- What such a lane would tell. Its disks are spoken of lane by lane alone.
abbrev pub as_one : Whole → LaneTold
as_one w =
    record {
      sheet = w.books.sheet;
      picture = w.picture;
      volumes = volumes_told w.books.tables;
      flags = w.books.flags;
      pool = record { flat = 0; thin = 0 };
      faults = 0;
      calls = 0;
    }

-- With what is kept of incremental mappings, and which grains occupy memory.
abbrev pub all_followed : Whole → Followed
all_followed w = record { told = as_one w; rows = w.rows; rooms = w.books.rooms }

-- ---- the part of a lane

-- Of a list by grains those of a lane, by their places there.
abbrev pub part : {X : Type 0} → LaneOf → X → List X → List X
part l past xs = map (λ g. slice_index_or xs (number_at l g) past) (range_with_len 0 (grains_in l (length xs)))

abbrev pub part_of_slot : LaneOf → Slot → Slot
part_of_slot l slot = record slot { held = part l Bool.false slot.held }

abbrev pub part_of_sheet : LaneOf → Sheet → Sheet
part_of_sheet l s = record { births = s.births; slots = map (part_of_slot l) s.slots }

abbrev pub part_of_volume : LaneOf → PlainVolume → PlainVolume
part_of_volume l v = record { volume = v.volume; now = part l Lost v.now; under = part l Lost v.under }

abbrev pub part_of_picture : LaneOf → Picture → Picture
part_of_picture l picture = map (part_of_volume l) picture

abbrev pub part_of_row : LaneOf → Row → Row
part_of_row l row = record row { same = part l Bool.false row.same }

abbrev pub part_of_rows : LaneOf → List Row → List Row
part_of_rows l rows = map (part_of_row l) rows

abbrev pub part_of_room : LaneOf → Room → Room
part_of_room l room = record room { reached = part l Bool.false room.reached }

abbrev pub part_of_rooms : LaneOf → List Room → List Room
part_of_rooms l rooms = map (part_of_room l) rooms

-- The lane of a number, among so many.
abbrev pub lane_at : GrainSize → Whole → ℕ → LaneOf
lane_at grain w i = record { lane = i; lanes = lanes w; grain = grain }

-- The pool of a lane.
abbrev pub pool_at : List Pool → ℕ → Pool
pool_at pools i = slice_index_or pools i (record { flat = 0; thin = 0 })

-- What is a lane's of what the history tells: the chains and plain volumes at its grains, and all volumes and background
-- work.
unfoldable pub part_at : GrainSize → Whole → ℕ → LaneTold
part_at grain w i =
    record {
      sheet = part_of_sheet (lane_at grain w i) w.books.sheet;
      picture = part_of_picture (lane_at grain w i) w.picture;
      volumes = volumes_told w.books.tables;
      flags = w.books.flags;
      pool = pool_at w.books.pools i;
      faults = slice_index_or w.faults i 0;
      calls = slice_index_or w.calls i 0;
    }

-- With what is kept of incremental mappings, and which grains occupy memory, at the lane's grains.
abbrev pub followed_at : GrainSize → Whole → ℕ → Followed
followed_at grain w i =
    record {
      told = part_at grain w i;
      rows = part_of_rows (lane_at grain w i) w.rows;
      rooms = part_of_rooms (lane_at grain w i) w.books.rooms;
    }
