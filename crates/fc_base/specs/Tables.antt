-- The tables of volumes, mappings and groups: what is found in them, and what a change makes of them.
use Rattle.std.specs.Prelude.{◌≡◌, ◌≢◌, ℕ, ◌<◌, Bool, not, ◌&&◌, if◌then◌else◌, List, [], ◌∷◌, ◌++◌, map, filter, find, All, AllPairs, Option, Some, None, IsSome, IsNone, option_map, ◌==◌, bytes_eq}
use Rattle.std.specs.Option.{option_and_then}
use Rattle.fc_base.specs.declared.ids.VolId.{VolId}
use Rattle.fc_base.specs.declared.ids.MapId.{MapId}
use Rattle.fc_base.specs.declared.ids.GroupId.{GroupId}
use Rattle.fc_base.specs.declared.fault.Kind.{Kind}
use Rattle.fc_base.specs.declared.fault.Kind.TheVariants.{Vdisk, Fcmap, Group as OfGroups}
use Rattle.fc_base.specs.declared.name.Ref.{Ref}
use Rattle.fc_base.specs.declared.name.Ref.TheVariants.{Id, Name}
use Rattle.fc_base.specs.declared.volume.Volume.{Volume}
use Rattle.fc_base.specs.declared.volume.Mapping.{Mapping}
use Rattle.fc_base.specs.declared.volume.Group.{Group}
use Rattle.fc_base.specs.declared.volume.Change.{Change}
use Rattle.fc_base.specs.declared.volume.Change.TheVariants.{AddVolume, RemoveVolume, AddMapping, RemoveMapping, SetMapping, AddGroup, RemoveGroup}

-- The objects of each kind, in order of id.
pub record Tables : Type 0 where
  pub volumes : List Volume
  pub mappings : List Mapping
  pub groups : List Group

abbrev pub no_tables : Tables
no_tables = record { volumes = []; mappings = []; groups = [] }

-- ---- What is found

-- whether the reference names the object with this id and this name
abbrev pub refers_to : Ref → ℕ → List ℕ → Bool
refers_to (Id asked) id name = asked == id
refers_to (Name asked) id name = bytes_eq asked name

-- what the reference names
abbrev pub volume_named : Tables → Ref → Option Volume
volume_named t r = find (λ v. refers_to r v.id.0 v.name) t.volumes

abbrev pub mapping_named : Tables → Ref → Option Mapping
mapping_named t r = find (λ m. refers_to r m.id.0 m.name) t.mappings

abbrev pub group_named : Tables → Ref → Option Group
group_named t r = find (λ g. refers_to r g.id.0 g.name) t.groups

-- what has the id
abbrev pub volume_with : Tables → VolId → Option Volume
volume_with t id = find (λ v. id.0 == v.id.0) t.volumes

abbrev pub mapping_with : Tables → MapId → Option Mapping
mapping_with t id = find (λ m. id.0 == m.id.0) t.mappings

abbrev pub group_with : Tables → GroupId → Option Group
group_with t id = find (λ g. id.0 == g.id.0) t.groups

-- the id of the object of this kind that has the name
abbrev pub id_with_name : Tables → Kind → List ℕ → Option ℕ
id_with_name t Vdisk name = option_map (λ v. v.id.0) (volume_named t (Name name))
id_with_name t Fcmap name = option_map (λ m. m.id.0) (mapping_named t (Name name))
id_with_name t OfGroups name = option_map (λ g. g.id.0) (group_named t (Name name))

-- whether the two mappings have source and target exchanged
abbrev pub are_partners : Mapping → Mapping → Bool
are_partners m other = (m.source.0 == other.target.0) && (m.target.0 == other.source.0)

-- the partner of the mapping with this id: the first mapping with source and target exchanged
abbrev pub partner_of : Tables → MapId → Option MapId
partner_of t id =
    option_and_then (λ m. option_map (λ other. other.id) (find (are_partners m) t.mappings)) (mapping_with t id)

-- ---- What changes

-- the tables after a change
abbrev pub after_change : Tables → Change → Tables
after_change t (AddVolume volume) = record t { volumes = t.volumes ++ volume ∷ [] }
after_change t (RemoveVolume id) = record t { volumes = filter (λ v. not (id.0 == v.id.0)) t.volumes }
after_change t (AddMapping mapping) = record t { mappings = t.mappings ++ mapping ∷ [] }
after_change t (RemoveMapping id) = record t { mappings = filter (λ m. not (id.0 == m.id.0)) t.mappings }
after_change t (SetMapping mapping) = record t { mappings = map (λ m. if mapping.id.0 == m.id.0 then mapping else m) t.mappings }
after_change t (AddGroup group) = record t { groups = t.groups ++ group ∷ [] }
after_change t (RemoveGroup id) = record t { groups = filter (λ g. not (id.0 == g.id.0)) t.groups }

-- The change fits the tables: a new id is above all ids of its kind, and no object of its kind has its name;
-- what is removed is there; and so is what is set, with the name that it keeps.
abbrev pub Fits : Tables → Change → Type 0
Fits t (AddVolume volume) = All (λ v. v.id.0 < volume.id.0) t.volumes × IsNone (volume_named t (Name volume.name))
Fits t (RemoveVolume id) = IsSome (volume_with t id)
Fits t (AddMapping mapping) = All (λ m. m.id.0 < mapping.id.0) t.mappings × IsNone (mapping_named t (Name mapping.name))
Fits t (RemoveMapping id) = IsSome (mapping_with t id)
Fits t (SetMapping mapping) = option_map (λ m. m.name) (mapping_with t mapping.id) ≡ Some mapping.name
Fits t (AddGroup group) = All (λ g. g.id.0 < group.id.0) t.groups × IsNone (group_named t (Name group.name))
Fits t (RemoveGroup id) = IsSome (group_with t id)

-- what a change asks room for: itself, where it adds an object
abbrev pub room_asked : Change → Option Change
room_asked (AddVolume volume) = Some (AddVolume volume)
room_asked (AddMapping mapping) = Some (AddMapping mapping)
room_asked (AddGroup group) = Some (AddGroup group)
room_asked change = None

-- The ids of the objects rise, and no two of them have one name.
pub record IsOrdered {X : Type 0} (id_of : X → ℕ) (name_of : X → List ℕ) (objects : List X) : Type 0 where
  pub rising : AllPairs (λ x y. id_of x < id_of y) objects
  pub distinct : AllPairs (λ x y. name_of x ≢ name_of y) objects
