-- The first refusal of commands that make, remove or show objects, in the stated order. Want of memory comes after all.
use Rattle.std.specs.Prelude.{ℕ, ◌+◌, ◌*◌, ◌/◌, ◌%◌, Bool, false, cond, not, ◌&&◌, ◌||◌, ◌==◌, nat_le, nat_lt, List, [], ◌∷◌, length, find, count_by, Option, Some, None, option_map, Result, Ok, Err}
use Rattle.std.specs.List.{list_any}
use Rattle.std.specs.Option.{option_map_or}
use Rattle.fc_base.specs.Grain.{grain_bytes, grain_kib}
use Rattle.fc_base.specs.States.{next_state}
use Rattle.fc_base.specs.Tables.{volume_named, mapping_named, group_named, id_with_name}
use Rattle.fc_base.specs.declared.command.Unit.{Unit as SizeUnit}
use Rattle.fc_base.specs.declared.fault.Kind.{Kind}
use Rattle.fc_base.specs.declared.fault.Kind.TheVariants.{Vdisk, Fcmap, Group as OfGroups}
use Rattle.fc_base.specs.declared.fault.Refusal.{Refusal}
use Rattle.fc_base.specs.declared.fault.Refusal.TheVariants.{NoSuch, Limit, NoDisk, BadValue, InUse, NotAllowed, NeedsForce, SizeDiffers, GrainDiffers, SameVolume, PairTaken}
use Rattle.fc_base.specs.declared.fault.ValueOf.TheVariants.{Size, CopyRate, CleanRate, Seconds, Grain}
use Rattle.fc_base.specs.declared.name.Ref.{Ref}
use Rattle.fc_base.specs.declared.size.GrainSize.{GrainSize}
use Rattle.fc_base.specs.declared.state.MapEvent.TheVariants.{Remove, RemoveForce}
use Rattle.fc_base.specs.declared.volume.Group.{Group}
use Rattle.fc_base.specs.declared.volume.Mapping.{Mapping}
use Rattle.fc_base.specs.declared.volume.Volume.{Volume}
use Rattle.fc_books.specs.Accesses.{is_active}
use Rattle.fc_books.specs.Books.{Books}
use Rattle.fc_books.specs.Copies.{is_used}
use Rattle.fc_books.specs.Groups.{members, group_state, is_none_of, some_in}
use Rattle.fc_books.specs.Making.{mapping_name, group_name}
use Rattle.fc_entry.specs.Refused.{first_of, where_, taken_by, lacks_disk, all_grains, blocks_refusal}
use Rattle.fc_entry.specs.Volumes.{unit_bytes, kind_of, volume_name}

-- ---- what a reference names

-- `no such vdisk`, `no such fcmap`, `no such group`: the reference names none; else what comes next for the one.
abbrev pub of_one : {X : Type 0} → Kind → Option X → (X → Option Refusal) → Option Refusal
of_one kind None next = Some (NoSuch kind)
of_one kind (Some x) next = next x

abbrev pub of_volume : Books → Ref → (Volume → Option Refusal) → Option Refusal
of_volume b r next = of_one Vdisk (volume_named b.tables r) next

abbrev pub of_mapping : Books → Ref → (Mapping → Option Refusal) → Option Refusal
of_mapping b r next = of_one Fcmap (mapping_named b.tables r) next

abbrev pub of_group : Books → Ref → (Group → Option Refusal) → Option Refusal
of_group b r next = of_one OfGroups (group_named b.tables r) next

-- The same for an option that need not be given.
abbrev pub of_asked : {X : Type 0} → (Ref → (X → Option Refusal) → Option Refusal) → Option Ref → (X → Option Refusal) → Option Refusal
of_asked of None next = None
of_asked of (Some r) next = of r next

-- What the state table refuses. Whether a copy is complete is told apart from it.
abbrev pub refused_by : {X : Type 0} → Result X Refusal → Option Refusal
refused_by (Ok state) = None
refused_by (Err refusal) = Some refusal

-- `name taken`: an object of the kind has the name, given or by default.
abbrev pub name_taken : Books → Kind → List ℕ → Option Refusal
name_taken b kind name = taken_by (id_with_name b.tables kind name)

-- ---- volumes

-- `mkvdisk`: a size that is 0 or isn't whole grains; 512 volumes; more than 8,192 grains in all; a name that is taken; no
-- disk of the kind in some lane.
abbrev pub mkvdisk_refused : GrainSize → Books → Option (List ℕ) → ℕ → Option SizeUnit → Bool → Option Refusal
mkvdisk_refused grain b name size unit thin =
    let bytes = size * unit_bytes unit in
    first_of
    (where_ ((bytes == 0) || not (bytes % grain_bytes grain == 0)) (BadValue Size)
    ∷ where_ (nat_le 512 (length b.tables.volumes)) (Limit 512)
    ∷ where_ (nat_lt 8192 (all_grains b.tables.volumes + bytes / grain_bytes grain)) (Limit 8192)
    ∷ name_taken b Vdisk (volume_name name b.next_volume)
    ∷ where_ (lacks_disk (kind_of thin) b.pools) NoDisk
    ∷ [])

-- `rmvdisk`: a mapping names the volume, or it is used as a source.
abbrev pub names_volume : Volume → Mapping → Bool
names_volume v m = (m.source.0 == v.id.0) || (m.target.0 == v.id.0)

abbrev pub rmvdisk_refused : Books → Ref → Option Refusal
rmvdisk_refused b r =
    of_volume b r (λ v. where_ (list_any (names_volume v) b.tables.mappings || is_used b.sheet.slots v.id) (InUse v.id))

-- `read` and `write`, of which refused ones settle nothing: more than 8,192 blocks; none, or one past the volume's end.
abbrev pub access_refused : GrainSize → Books → Ref → ℕ → ℕ → Option Refusal
access_refused grain b r block count = of_volume b r (λ v. blocks_refusal grain v block count)

-- `mkpreset`, of which an entry stands only where its source names no volume: it settles nothing.
abbrev pub preset_refused : Books → Ref → Option Refusal
preset_refused b source = of_volume b source (λ v. None)

-- `armfault`: a grain past the end.
abbrev pub armfault_refused : Books → Ref → ℕ → Option Refusal
armfault_refused b r grain = of_volume b r (λ v. where_ (nat_le v.grains grain) (BadValue Grain))

-- `advance`: no seconds, or more than 3,600.
abbrev pub advance_refused : ℕ → Option Refusal
advance_refused seconds = where_ ((seconds == 0) || nat_lt 3600 seconds) (BadValue Seconds)

-- ---- mappings

-- A rate above 150.
abbrev pub is_over : ℕ → Option ℕ → Bool
is_over most rate = option_map_or (nat_lt most) rate false

-- Another grain size than the run's.
abbrev pub grain_differs : GrainSize → Option GrainSize → Option Refusal
grain_differs run None = None
grain_differs run (Some asked) = where_ (not (grain_kib asked == grain_kib run)) (GrainDiffers asked run)

-- A mapping from this source to this target.
abbrev pub is_pair : Volume → Volume → Mapping → Bool
is_pair source target m = (m.source.0 == source.id.0) && (m.target.0 == target.id.0)

abbrev pub pair_taken : Books → Volume → Volume → Option Refusal
pair_taken b source target = option_map (λ (m : Mapping). PairTaken m.id) (find (is_pair source target) b.tables.mappings)

-- A group takes new members while it is empty, idle_or_copied or stopped.
abbrev pub group_busy : Books → Group → Option Refusal
group_busy b g = where_ (some_in is_active (members b.tables g.id)) (NotAllowed (group_state b.tables g.id))

-- `mkfcmap`: no such source; no such target; one volume twice; other sizes; another grain size than the run's; a mapping with
-- this source and target; no such group; a copy rate above 150; a clean rate above 150; 512 mappings; 256 with this source;
-- 64 in the group; a state of the group other than empty, idle_or_copied and stopped; a name that is taken.
abbrev pub mkfcmap_refused : GrainSize → Books → Ref → Ref → Option (List ℕ) → Option Ref → Option ℕ → Option ℕ → Option GrainSize → Option Refusal
mkfcmap_refused grain b source target name group copy_rate clean_rate grain_size =
    of_volume b source (λ s. of_volume b target (λ t.
    first_of
    (where_ (s.id.0 == t.id.0) SameVolume
    ∷ where_ (not (s.grains == t.grains)) (SizeDiffers s.grains t.grains)
    ∷ grain_differs grain grain_size
    ∷ pair_taken b s t
    ∷ of_asked (of_group b) group (λ g. None)
    ∷ where_ (is_over 150 copy_rate) (BadValue CopyRate)
    ∷ where_ (is_over 150 clean_rate) (BadValue CleanRate)
    ∷ where_ (nat_le 512 (length b.tables.mappings)) (Limit 512)
    ∷ where_ (nat_le 256 (count_by (λ (m : Mapping). m.source.0 == s.id.0) b.tables.mappings)) (Limit 256)
    ∷ of_asked (of_group b) group (λ g. where_ (nat_le 64 (length (members b.tables g.id))) (Limit 64))
    ∷ of_asked (of_group b) group (group_busy b)
    ∷ name_taken b Fcmap (mapping_name name b.next_mapping)
    ∷ [])))

-- `rmfcmap`: an active mapping; a stopped one without `-force`.
abbrev pub rmfcmap_refused : Books → Ref → Bool → Option Refusal
rmfcmap_refused b r force =
    of_mapping b r (λ m. refused_by (next_state m.state (cond force RemoveForce Remove) false false))

-- ---- groups

-- `mkfcconsistgrp`: 64 groups; a name that is taken.
abbrev pub mkfcconsistgrp_refused : Books → Option (List ℕ) → Option Refusal
mkfcconsistgrp_refused b name =
    first_of
    (where_ (nat_le 64 (length b.tables.groups)) (Limit 64)
    ∷ name_taken b OfGroups (group_name name b.next_group)
    ∷ [])

-- `rmfcconsistgrp`: members, without `-force`.
abbrev pub rmfcconsistgrp_refused : Books → Ref → Bool → Option Refusal
rmfcconsistgrp_refused b r force =
    of_group b r (λ g. where_ (not force && not (is_none_of (members b.tables g.id))) NeedsForce)
