-- Which grains of volumes occupy memory of their disks.
use Rattle.std.specs.Prelude.{ℕ, ◌==◌, not, Bool, true, false, cond, filter, List, [], ◌∷◌, ◌++◌, map, replicate, slice_set}
use Rattle.std.specs.List.{count_by}
use Rattle.fc_base.specs.declared.decision.LaneEvent.{LaneEvent}
use Rattle.fc_base.specs.declared.decision.LaneEvent.TheVariants.{Make, Remove}
use Rattle.fc_base.specs.declared.disk.DiskKind.{DiskKind}
use Rattle.fc_base.specs.declared.disk.DiskKind.TheVariants.{Flat, Thin}
use Rattle.fc_base.specs.declared.ids.VolId.{VolId}

-- A volume, and for each of its grains whether it occupies memory: on flat disks every grain, on thin disks each that a write
-- reached, also one that failed.
pub record Room : Type 0 where
  pub volume : VolId
  pub reached : List Bool

-- Of the volume with this id; one that isn't there has no grains.
abbrev pub reached_in : List Room → ℕ → List Bool
reached_in [] id = []
reached_in (r ∷ rs) id = cond (r.volume.0 == id) r.reached (reached_in rs id)

-- How many of its grains occupy memory.
abbrev pub used_in : List Room → ℕ → ℕ
used_in rooms id = count_by (λ b. b) (reached_in rooms id)

-- A write reached a grain of the volume.
abbrev pub reaching : ℕ → Room → Room
reaching place r = record r { reached = slice_set r.reached place true }

abbrev pub reach : ℕ → ℕ → List Room → List Room
reach id place rooms = map (λ r. cond (r.volume.0 == id) (reaching place r) r) rooms

-- The grains of a new volume.
abbrev pub new_reached : DiskKind → ℕ → List Bool
new_reached Flat grains = replicate grains true
new_reached Thin grains = replicate grains false

-- What an event does to the volumes' grains, of which a new volume has so many as `grains_of` gives.
abbrev pub rooms_after : (ℕ → ℕ) → List Room → LaneEvent → List Room
rooms_after grains_of rooms (Make volume grains kind) =
    rooms ++ record { volume = volume; reached = new_reached kind (grains_of grains) } ∷ []
rooms_after grains_of rooms (Remove volume) = filter (λ (r : Room). not (r.volume.0 == volume.0)) rooms
rooms_after grains_of rooms event = rooms
