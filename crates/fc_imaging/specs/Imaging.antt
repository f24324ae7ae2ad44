-- All that metadata is to say of a store.
use Rattle.std.specs.Prelude.{ℕ, ◌/◌, ◌%◌, Bool, List, [], length, map, slice_index_or}
use Rattle.std.specs.List.{range_with_len}
use Rattle.fc_base.specs.declared.volume.Volume.{Volume}
use Rattle.fc_desk.specs.Control.{ControlState}
use Rattle.fc_entry.specs.Picture.{is_lost}
use Rattle.fc_grains.specs.Volumes.{VolumeGrains, stored}
use Rattle.fc_kept.specs.Kept.{LostGrains, Kept}
use Rattle.fc_lane.specs.Lane.{LaneView}
use Rattle.fc_lane_sheet.specs.LaneSheet.{sheet_of, all_rows}
use Rattle.fc_legal.specs.Whole.{Whole}

-- What the disks of a lane hold.
abbrev pub grains_in : List LaneView → ℕ → List VolumeGrains
grains_in lanes i = slice_index_or (map (λ (v : LaneView). v.grains.volumes) lanes) i []

-- A grain of a volume is lost where its lane has it so, at its place there.
abbrev pub is_lost_at : List LaneView → ℕ → ℕ → Bool
is_lost_at lanes volume g = is_lost (stored (grains_in lanes (g % length lanes)) volume (g / length lanes))

-- The lost grains of a volume, and of each of these.
abbrev pub lost_of : List LaneView → Volume → LostGrains
lost_of lanes v = record { volume = v.id.0; lost = map (is_lost_at lanes v.id.0) (range_with_len 0 v.grains) }

abbrev pub lost_grains : List LaneView → List Volume → List LostGrains
lost_grains lanes volumes = map (lost_of lanes) volumes

-- What is told, with these lost grains: the tables and the ids that come next, the chains of copies, and the rows of the mappings that
-- are followed.
abbrev pub kept_of : Whole → List LostGrains → Kept
kept_of w lost =
    record {
      tables = w.books.tables;
      next_volume = w.books.next_volume;
      next_mapping = w.books.next_mapping;
      next_group = w.books.next_group;
      sheet = w.books.sheet;
      rows = w.rows;
      lost = lost;
    }

-- The same by the parts: what the control part has, and what the lanes have together.
abbrev pub kept_by_parts : ControlState → List LaneView → Kept
kept_by_parts c lanes =
    record {
      tables = c.tables;
      next_volume = c.next_volume;
      next_mapping = c.next_mapping;
      next_group = c.next_group;
      sheet = sheet_of lanes;
      rows = all_rows lanes;
      lost = lost_grains lanes c.tables.volumes;
    }
