-- Why a mapping isn't made: for its two volumes, for its group and rates, for want of room.
use Rattle.std.specs.Prelude.{ℕ, Bool, false, not, ◌==◌, nat_le, List, [], ◌∷◌, length, find, count_by, Option, Some, None, option_map, is_none, unwrap_or}
use Rattle.fc_base.specs.Tables.{Tables, group_named, id_with_name}
use Rattle.fc_base.specs.declared.fault.Kind.TheVariants.{Fcmap, Group as OfGroups}
use Rattle.fc_base.specs.declared.fault.Refusal.{Refusal}
use Rattle.fc_base.specs.declared.fault.Refusal.TheVariants.{NoSuch, Limit, BadValue, NotAllowed, SizeDiffers, SameVolume, PairTaken}
use Rattle.fc_base.specs.declared.fault.ValueOf.TheVariants.{CopyRate, CleanRate}
use Rattle.fc_base.specs.declared.ids.GroupId.{GroupId}
use Rattle.fc_base.specs.declared.name.Ref.{Ref}
use Rattle.fc_base.specs.declared.size.GrainSize.{GrainSize}
use Rattle.fc_base.specs.declared.state.MapState.TheVariants.{IdleOrCopied}
use Rattle.fc_base.specs.declared.volume.Mapping.{Mapping}
use Rattle.fc_base.specs.declared.volume.Volume.{Volume}
use Rattle.fc_books.specs.Accesses.{is_active}
use Rattle.fc_books.specs.Groups.{members, group_state, some_in}
use Rattle.fc_books.specs.Books.{Books}
use Rattle.fc_books.specs.Making.{group_asked, mapping_name}
use Rattle.fc_books.specs.Refused.{of_asked, of_group, group_busy, grain_differs, is_pair, is_over, pair_taken, name_taken}
use Rattle.fc_entry.specs.Refused.{first_of, where_, taken_by}

-- For its two volumes.
abbrev pub ends_refused : GrainSize → List Mapping → Volume → Volume → Option GrainSize → Option Refusal
ends_refused run maps s t asked =
    first_of
    (where_ (s.id.0 == t.id.0) SameVolume
    ∷ where_ (not (s.grains == t.grains)) (SizeDiffers s.grains t.grains)
    ∷ grain_differs run asked
    ∷ option_map (λ (m : Mapping). PairTaken m.id) (find (is_pair s t) maps)
    ∷ [])

-- For its group, which has to be there where one is given, its rates, and the limit of all mappings.
abbrev pub asked_refused : Tables → Option Ref → Option Refusal
asked_refused t None = None
asked_refused t (Some r) = where_ (is_none (group_named t r)) (NoSuch OfGroups)

abbrev pub rates_refused : Tables → Option Ref → Option ℕ → Option ℕ → Option Refusal
rates_refused t group copy_rate clean_rate =
    first_of
    (asked_refused t group
    ∷ where_ (is_over 150 copy_rate) (BadValue CopyRate)
    ∷ where_ (is_over 150 clean_rate) (BadValue CleanRate)
    ∷ where_ (nat_le 512 (length t.mappings)) (Limit 512)
    ∷ [])

-- For the limits of its source and of its group, the state of its group, and its name.
abbrev pub full_group : Tables → Option GroupId → Option Refusal
full_group t None = None
full_group t (Some g) = where_ (nat_le 64 (length (members t g))) (Limit 64)

abbrev pub busy_group : Tables → Option GroupId → Option Refusal
busy_group t None = None
busy_group t (Some g) = where_ (some_in is_active (members t g)) (NotAllowed (group_state t g))

abbrev pub room_refused : Tables → Volume → Option GroupId → List ℕ → Option Refusal
room_refused t s group name =
    first_of
    (where_ (nat_le 256 (count_by (λ (m : Mapping). m.source.0 == s.id.0) t.mappings)) (Limit 256)
    ∷ full_group t group
    ∷ busy_group t group
    ∷ taken_by (id_with_name t Fcmap name)
    ∷ [])

-- All of it in one list, as the definition has it.
abbrev pub pair_refused : GrainSize → Books → Volume → Volume → Option (List ℕ) → Option Ref → Option ℕ → Option ℕ → Option GrainSize → Option Refusal
pair_refused grain b s t name group copy_rate clean_rate grain_size =
    first_of
    (where_ (s.id.0 == t.id.0) SameVolume
    ∷ where_ (not (s.grains == t.grains)) (SizeDiffers s.grains t.grains)
    ∷ grain_differs grain grain_size
    ∷ pair_taken b s t
    ∷ of_asked (of_group b) group (λ g. None)
    ∷ where_ (is_over 150 copy_rate) (BadValue CopyRate)
    ∷ where_ (is_over 150 clean_rate) (BadValue CleanRate)
    ∷ where_ (nat_le 512 (length b.tables.mappings)) (Limit 512)
    ∷ where_ (nat_le 256 (count_by (λ (m : Mapping). m.source.0 == s.id.0) b.tables.mappings)) (Limit 256)
    ∷ of_asked (of_group b) group (λ g. where_ (nat_le 64 (length (members b.tables g.id))) (Limit 64))
    ∷ of_asked (of_group b) group (group_busy b)
    ∷ name_taken b Fcmap (mapping_name name b.next_mapping)
    ∷ [])

-- A new mapping with this name.
abbrev pub mapping_with_name : Tables → ℕ → Volume → Volume → List ℕ → Option Ref → Option ℕ → Option ℕ → Bool → Bool → Mapping
mapping_with_name t id source target name group copy_rate clean_rate incremental autodelete =
    record {
      id = record { 0 = id };
      name = name;
      source = source.id;
      target = target.id;
      group = group_asked t group;
      state = IdleOrCopied;
      copy_rate = unwrap_or copy_rate 50;
      clean_rate = unwrap_or clean_rate 50;
      incremental = incremental;
      autodelete = autodelete;
      restoring = false;
      held_at_leave = 0;
      complete = false;
    }
