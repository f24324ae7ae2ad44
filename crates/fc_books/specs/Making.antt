-- What making and removing objects does, where it isn't refused.
use Rattle.std.specs.Prelude.{ℕ, ◌*◌, ◌/◌, Bool, false, cond, List, [], ◌∷◌, ◌++◌, map, Option, Some, None, option_map, unwrap_or, codes, decimal}
use Rattle.fc_base.specs.Grain.{grain_bytes}
use Rattle.fc_base.specs.Tables.{Tables, group_named}
use Rattle.fc_base.specs.declared.command.Unit.{Unit as SizeUnit}
use Rattle.fc_base.specs.declared.decision.LaneEvent.TheVariants.{Make, Remove, Forget, Access, Arm}
use Rattle.fc_base.specs.declared.ids.GroupId.{GroupId}
use Rattle.fc_base.specs.declared.name.Ref.{Ref}
use Rattle.fc_base.specs.declared.request.Effect.TheVariants.{Make as Made, Remove as Removed, Gone}
use Rattle.fc_base.specs.declared.size.GrainSize.{GrainSize}
use Rattle.fc_base.specs.declared.state.Access.TheVariants.{Online}
use Rattle.fc_base.specs.declared.state.MapState.TheVariants.{IdleOrCopied}
use Rattle.fc_base.specs.declared.volume.Change.TheVariants.{AddVolume, RemoveVolume, AddMapping, RemoveMapping, SetMapping, AddGroup, RemoveGroup}
use Rattle.fc_base.specs.declared.volume.Group.{Group}
use Rattle.fc_base.specs.declared.volume.Mapping.{Mapping}
use Rattle.fc_base.specs.declared.volume.Volume.{Volume}
use Rattle.fc_books.specs.Accesses.{is_stopped}
use Rattle.fc_books.specs.Books.{Books, Deed, told}
use Rattle.fc_books.specs.Groups.{members}
use Rattle.fc_entry.specs.Volumes.{unit_bytes, kind_of, volume_name}

-- ---- volumes

-- A new volume: flat, or thin where that is asked; its size is in mb unless a unit is given.
abbrev pub new_volume : GrainSize → Books → Option (List ℕ) → ℕ → Option SizeUnit → Bool → Volume
new_volume grain b name size unit thin =
    record {
      id = record { 0 = b.next_volume };
      name = volume_name name b.next_volume;
      grains = (size * unit_bytes unit) / grain_bytes grain;
      kind = kind_of thin;
    }

abbrev pub make_volume : Volume → Deed
make_volume v =
    record { effects = Made v.id v.grains ∷ []; events = Make v.id v.grains v.kind ∷ []; changes = AddVolume v ∷ [] }

abbrev pub remove_volume : Volume → Deed
remove_volume v = record { effects = Removed v.id ∷ []; events = Remove v.id ∷ []; changes = RemoveVolume v.id ∷ [] }

-- So many calls from now, a call of the volume's disk in the grain's lane fails.
abbrev pub arm : Volume → ℕ → ℕ → Deed
arm v grain calls = told (Arm v.id record { 0 = grain } calls ∷ [])

-- ---- mappings

-- The name that was given, or `fcmap` and the id.
abbrev pub mapping_name : Option (List ℕ) → ℕ → List ℕ
mapping_name (Some name) id = name
mapping_name None id = codes "fcmap" ++ decimal id

-- The group that a new mapping is in.
abbrev pub group_asked : Tables → Option Ref → Option GroupId
group_asked t None = None
group_asked t (Some r) = option_map (λ (g : Group). g.id) (group_named t r)

-- A new mapping is idle. Rates that aren't given are 50.
abbrev pub new_mapping : Books → Volume → Volume → Option (List ℕ) → Option Ref → Option ℕ → Option ℕ → Bool → Bool → Mapping
new_mapping b source target name group copy_rate clean_rate incremental autodelete =
    record {
      id = record { 0 = b.next_mapping };
      name = mapping_name name b.next_mapping;
      source = source.id;
      target = target.id;
      group = group_asked b.tables group;
      state = IdleOrCopied;
      copy_rate = unwrap_or copy_rate 50;
      clean_rate = unwrap_or clean_rate 50;
      incremental = incremental;
      autodelete = autodelete;
      restoring = false;
      held_at_leave = 0;
      complete = false;
    }

abbrev pub make_mapping : Mapping → Deed
make_mapping m = record { effects = []; events = []; changes = AddMapping m ∷ [] }

-- A mapping goes; the target of a stopped one is online again.
abbrev pub remove_mapping : Mapping → Deed
remove_mapping m =
    record {
      effects = Gone m.id ∷ [];
      events = cond (is_stopped m.state) (Access m.target Online ∷ []) [] ++ Forget m.id ∷ [];
      changes = RemoveMapping m.id ∷ [];
    }

-- ---- groups

-- The name that was given, or `fccstgrp` and the id.
abbrev pub group_name : Option (List ℕ) → ℕ → List ℕ
group_name (Some name) id = name
group_name None id = codes "fccstgrp" ++ decimal id

abbrev pub new_group : Books → Option (List ℕ) → Group
new_group b name = record { id = record { 0 = b.next_group }; name = group_name name b.next_group }

abbrev pub make_group : Group → Deed
make_group g = record { effects = []; events = []; changes = AddGroup g ∷ [] }

-- A group goes; its members stay, as single mappings.
abbrev pub remove_group : Tables → GroupId → Deed
remove_group t g =
    record { effects = []; events = []; changes = map (λ (m : Mapping). SetMapping (record m { group = None })) (members t g) ++ RemoveGroup g ∷ [] }
