-- What commands leave of the armed faults of disks, lane by lane.
use Rattle.std.specs.Prelude.{ℕ, ◌==◌, Bool, false, unwrap_or}
use Rattle.std.specs.Option.{option_map_or}
use Rattle.fc_base.specs.Tables.{Tables, volume_named}
use Rattle.fc_base.specs.declared.command.Command.{Command}
use Rattle.fc_base.specs.declared.name.Ref.{Ref}
use Rattle.fc_base.specs.declared.request.Reply.{Reply}
use Rattle.fc_base.specs.declared.request.Request.TheVariants.{Command as Asked}
use Rattle.fc_base.specs.declared.volume.Volume.{Volume}
use Rattle.fc_lane.specs.Lane.{LaneView, of}
use Rattle.fc_lanes.specs.AllLanes.{IsDueIn}
use Rattle.fc_rules.specs.LaneTold.{LaneOf}
use Rattle.fc_stands.specs.Arming.{set_by}

-- Whether the reference names the volume with this id.
abbrev pub refers_to_volume : Tables → Ref → ℕ → Bool
refers_to_volume t r id = option_map_or (λ (v : Volume). v.id.0 == id) (volume_named t r) false

-- How many calls away the fault is after a command that was answered so: what this sets by the tables, if it sets it; else as it was.
abbrev pub due_after : Tables → LaneOf → Command → Reply → ℕ → ℕ → ℕ
due_after t l command reply id n = unwrap_or (set_by (λ r. refers_to_volume t r id) id l.lane l.lanes (Asked command) reply) n

-- A lane after such a command.
abbrev pub ArmsAs : Tables → Command → Reply → LaneView → LaneView → Type 0
ArmsAs t command reply old new = (id n : ℕ) → IsDueIn old id n → IsDueIn new id (due_after t (of old) command reply id n)
