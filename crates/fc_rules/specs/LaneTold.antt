-- What the past of a lane tells.
use Rattle.std.specs.Prelude.{ℕ, ◌+◌, ◌-◌, ◌*◌, ◌/◌, Bool, true, false, ◌==◌, not, cond, fold, filter, map, replicate, slice_set, Option, Some, None, List, [], ◌∷◌, ◌++◌}
use Rattle.fc_base.specs.Grain.{block_bytes}
use Rattle.fc_base.specs.Pools.{Pool, pool_without}
use Rattle.fc_base.specs.Sheet.{Slot, Sheet, no_slots, slot_at, mapping_place}
use Rattle.fc_base.specs.SheetStep.{sheet_step, sheet_moved, sheet_written, sheet_torn}
use Rattle.fc_base.specs.declared.decision.LaneEvent.{LaneEvent}
use Rattle.fc_base.specs.declared.decision.LaneEvent.TheVariants.{Make, Remove, Trigger, Retire, Detach, Force, Forget, Access as SetAccess, Work}
use Rattle.fc_base.specs.declared.disk.DiskKind.{DiskKind}
use Rattle.fc_base.specs.declared.disk.DiskKind.TheVariants.{Thin, Flat}
use Rattle.fc_base.specs.declared.ids.MapId.{MapId}
use Rattle.fc_base.specs.declared.ids.VolId.{VolId}
use Rattle.fc_base.specs.declared.request.Move.{Move}
use Rattle.fc_base.specs.declared.request.Side.{Side}
use Rattle.fc_base.specs.declared.request.Side.TheVariants.{Now, Under}
use Rattle.fc_base.specs.declared.request.Torn.{Torn}
use Rattle.fc_base.specs.declared.request.WritePart.{WritePart}
use Rattle.fc_base.specs.declared.size.GrainSize.{GrainSize}
use Rattle.fc_base.specs.declared.state.Access.{Access}
use Rattle.fc_base.specs.declared.state.Access.TheVariants.{Online}
use Rattle.fc_entry.specs.Picture.{Content, Lost, PlainVolume, Picture, zeros, changed_at, content_at, grain_of_block, byte_in_grain, written}
use Rattle.fc_entry.specs.PlainStep.{after_trigger}
use Rattle.fc_entry.specs.declared.entry.Past.{Past}
use Rattle.fc_entry.specs.declared.entry.Past.TheVariants.{Opened, Step, Command}
use Rattle.fc_pick.specs.Flags.{with_flags, without_flags}
use Rattle.fc_pick.specs.declared.work.WorkFlags.{WorkFlags}

-- A lane: its number, how many lanes there are, and the grain size. It has the grains whose numbers leave its own number
-- when divided by the number of lanes.
pub record LaneOf : Type 0 where
  pub lane : ℕ
  pub lanes : ℕ
  pub grain : GrainSize

-- The place of a volume's grain among the lane's, the number of the grain at a place, and how many of so many grains the
-- lane has.
abbrev pub place_of : LaneOf → ℕ → ℕ
place_of l number = number / l.lanes

abbrev pub number_at : LaneOf → ℕ → ℕ
number_at l place = place * l.lanes + l.lane

abbrev pub grains_in : LaneOf → ℕ → ℕ
grains_in l grains = (grains + l.lanes - 1 - l.lane) / l.lanes

-- The kind of a volume's disks, and how hosts may reach it.
pub record LaneVolume : Type 0 where
  pub volume : VolId
  pub kind : DiskKind
  pub access : Access

-- What is told: the chains, what plain volumes hold (of both the lane's grains alone, by their places), the volumes, the
-- mappings with background work, the disks left for new volumes, and the faults and calls of all disks that the lane
-- ever had.
pub record LaneTold : Type 0 where
  pub sheet : Sheet
  pub picture : Picture
  pub volumes : List LaneVolume
  pub flags : List WorkFlags
  pub pool : Pool
  pub faults : ℕ
  pub calls : ℕ

abbrev pub nothing_told : LaneTold
nothing_told =
    record { sheet = no_slots; picture = []; volumes = []; flags = []; pool = record { flat = 0; thin = 0 }; faults = 0; calls = 0 }

-- How a volume may be reached, and whether its disks are thin.
abbrev pub lane_access : List LaneVolume → VolId → Access
lane_access [] id = Online
lane_access (v ∷ vs) id = cond (v.volume.0 == id.0) v.access (lane_access vs id)

abbrev pub is_thin_kind : DiskKind → Bool
is_thin_kind Flat = false
is_thin_kind Thin = true

abbrev pub is_thin_in : List LaneVolume → ℕ → Bool
is_thin_in [] id = false
is_thin_in (v ∷ vs) id = cond (v.volume.0 == id) (is_thin_kind v.kind) (is_thin_in vs id)

-- ---- events of commands

-- A copy that leaves a chain leaves its volume with what it held, and else with what the volume held before it became a
-- target.
abbrev pub cut_by : List Bool → List Content → List Content → List Content
cut_by (true ∷ held) (now ∷ nows) (under ∷ unders) = now ∷ cut_by held nows unders
cut_by (false ∷ held) (now ∷ nows) (under ∷ unders) = under ∷ cut_by held nows unders
cut_by _ nows _ = nows

abbrev pub cut_volume : List Bool → PlainVolume → PlainVolume
cut_volume held v = record v { now = cut_by held v.now v.under }

abbrev pub cut_at : List Slot → Option ℕ → Picture → Picture
cut_at slots None picture = picture
cut_at slots (Some k) picture =
    cond (slot_at slots k).is_live (changed_at record { 0 = (slot_at slots k).volume } (cut_volume (slot_at slots k).held) picture) picture

-- The mapping's slot, if it is live, leaves.
abbrev pub leaves : List Slot → Picture → MapId → Picture
leaves slots picture m = cut_at slots (mapping_place slots m.0) picture

-- What an event does to what plain volumes hold: a volume comes with zeros or goes; all targets of a trigger become copies
-- at once; and a live slot that leaves its chain leaves what it held.
abbrev pub picture_event : LaneOf → List Slot → Picture → LaneEvent → Picture
picture_event l slots picture (Make volume grains kind) =
    picture ++ record { volume = volume; now = replicate (grains_in l grains) (zeros l.grain); under = replicate (grains_in l grains) (zeros l.grain) } ∷ []
picture_event l slots picture (Remove volume) = filter (λ (v : PlainVolume). not (v.volume.0 == volume.0)) picture
picture_event l slots picture (Trigger pairs) = map (after_trigger picture pairs) picture
picture_event l slots picture (Retire m) = leaves slots picture m
picture_event l slots picture (Detach m) = leaves slots picture m
picture_event l slots picture (Force m dependents) = fold (leaves slots) (leaves slots picture m) dependents
picture_event l slots picture event = picture

-- What it does to the volumes.
abbrev pub volumes_event : List LaneVolume → LaneEvent → List LaneVolume
volumes_event volumes (Make volume grains kind) = volumes ++ record { volume = volume; kind = kind; access = Online } ∷ []
volumes_event volumes (Remove volume) = filter (λ (v : LaneVolume). not (v.volume.0 == volume.0)) volumes
volumes_event volumes (SetAccess volume access) = map (λ (v : LaneVolume). cond (v.volume.0 == volume.0) (record v { access = access }) v) volumes
volumes_event volumes event = volumes

-- What it does to background work.
abbrev pub flags_event : List WorkFlags → LaneEvent → List WorkFlags
flags_event flags (Work m copies cleans) = with_flags record { map = m; copies = copies; cleans = cleans } flags
flags_event flags (Forget m) = without_flags m flags
flags_event flags event = flags

-- What it does to the disks left.
abbrev pub pool_event : Pool → LaneEvent → Pool
pool_event pool (Make volume grains kind) = pool_without kind pool
pool_event pool event = pool

abbrev pub told_event : LaneOf → LaneTold → LaneEvent → LaneTold
told_event l told event =
    record told {
      sheet = sheet_step (grains_in l) told.sheet event;
      picture = picture_event l told.sheet.slots told.picture event;
      volumes = volumes_event told.volumes event;
      flags = flags_event told.flags event;
      pool = pool_event told.pool event;
    }

-- ---- entries

-- The chains after moves, after a write that was done, and after a torn one.
abbrev pub sheet_move : LaneOf → Sheet → Move → Sheet
sheet_move l s m = sheet_moved m.volume.0 (place_of l m.grain.0) m.in_place s

abbrev pub sheet_write : LaneOf → Sheet → Option WritePart → Sheet
sheet_write l s None = s
sheet_write l s (Some part) = sheet_written part.volume.0 (place_of l (grain_of_block l.grain part.block)) s

abbrev pub sheet_tear : LaneOf → Sheet → Option Torn → Sheet
sheet_tear l s None = s
sheet_tear l s (Some torn) = sheet_torn torn.volume.0 (place_of l torn.grain.0) torn.side s

abbrev pub sheet_entry : LaneOf → Sheet → Option WritePart → List Move → Option Torn → Sheet
sheet_entry l s write moves torn = sheet_tear l (sheet_write l (fold (sheet_move l) s moves) write) torn

-- What plain volumes hold after a write that was done, and after a torn one. Moves change nothing.
abbrev pub write_volume : LaneOf → WritePart → PlainVolume → PlainVolume
write_volume l part v =
    let g = place_of l (grain_of_block l.grain part.block) in
    record v {
      now = slice_set v.now g
          (written (byte_in_grain l.grain part.block) (block_bytes * part.count) part.byte (content_at v.now g));
    }

abbrev pub picture_write : LaneOf → Picture → Option WritePart → Picture
picture_write l picture None = picture
picture_write l picture (Some part) = changed_at part.volume (write_volume l part) picture

abbrev pub tear_volume : Side → ℕ → PlainVolume → PlainVolume
tear_volume Now g v = record v { now = slice_set v.now g Lost }
tear_volume Under g v = record v { under = slice_set v.under g Lost }

abbrev pub picture_tear : LaneOf → Picture → Option Torn → Picture
picture_tear l picture None = picture
picture_tear l picture (Some torn) = changed_at torn.volume (tear_volume torn.side (place_of l torn.grain.0)) picture

abbrev pub picture_entry : LaneOf → Picture → Option WritePart → Option Torn → Picture
picture_entry l picture write torn = picture_tear l (picture_write l picture write) torn

-- ---- the past

abbrev pub told_past : LaneOf → LaneTold → Past → LaneTold
told_past l told (Opened flat thin faults calls) =
    record told { pool = record { flat = flat; thin = thin }; faults = faults; calls = calls }
told_past l told (Step number write moves torn faults calls) =
    record told {
      sheet = sheet_entry l told.sheet write moves torn;
      picture = picture_entry l told.picture write torn;
      faults = faults;
      calls = told.calls + calls;
    }
told_past l told (Command number events changes) = fold (told_event l) told events

-- What the records of a past tell.
unfoldable pub lane_told : LaneOf → List Past → LaneTold
lane_told l past = fold (told_past l) nothing_told past
