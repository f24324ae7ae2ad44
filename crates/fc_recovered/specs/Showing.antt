-- What a volume shows at a grain, by the chains and the lost grains of metadata and the bytes on the disks.
use Rattle.std.specs.Prelude.{ℕ, ◌%◌, List, length, Option, Some, None}
use Rattle.fc_base.specs.Column.{holder}
use Rattle.fc_base.specs.Sheet.{Slot, slot_at, column, live_place}
use Rattle.fc_base.specs.declared.size.GrainSize.{GrainSize}
use Rattle.fc_entry.specs.Picture.{Content, Lost}
use Rattle.fc_rules.specs.LaneTold.{LaneOf, place_of}
use Rattle.fc_kept.specs.Disks.{NamedDisk, stored_on}
use Rattle.fc_kept.specs.Kept.{Kept}
use Rattle.fc_kept.specs.Recoverable.{disks_at}

-- The lane with this number, over the disks of all lanes.
abbrev pub lane_over : GrainSize → List (List NamedDisk) → ℕ → LaneOf
lane_over grain disks i = record { lane = i; lanes = length disks; grain = grain }

-- What is stored of a volume's grain: in the grain's lane, at its place there.
abbrev pub stored_in_lane : LaneOf → List (List NamedDisk) → Kept → ℕ → ℕ → Content
stored_in_lane l disks k v number = stored_on l (disks_at disks l.lane) k v (place_of l number)

abbrev pub stored_at : GrainSize → List (List NamedDisk) → Kept → ℕ → ℕ → Content
stored_at grain disks k v number = stored_in_lane (lane_over grain disks (number % length disks)) disks k v number

-- The holder of a volume's grain, by its place among the slots: that of the volume's live slot.
abbrev pub holder_for : List Slot → ℕ → Option ℕ → Option ℕ
holder_for slots number None = None
holder_for slots number (Some t) = holder (column slots number) t

abbrev pub holder_place : List Slot → ℕ → ℕ → Option ℕ
holder_place slots v number = holder_for slots number (live_place slots v)

-- The volume shows what is stored of its holder's volume; without a holder, nothing.
abbrev pub shown_by : GrainSize → List (List NamedDisk) → Kept → ℕ → Option ℕ → Content
shown_by grain disks k number None = Lost
shown_by grain disks k number (Some h) = stored_at grain disks k (slot_at k.sheet.slots h).volume number

abbrev pub shown_at : GrainSize → List (List NamedDisk) → Kept → ℕ → ℕ → Content
shown_at grain disks k v number = shown_by grain disks k number (holder_place k.sheet.slots v number)
