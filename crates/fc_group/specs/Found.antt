-- The mappings with given ids, and what is asked of them.
use Rattle.std.specs.Prelude.{ℕ, min, Bool, false, cond, nat_lt, List, filter_map, count_by, Option, Some, None, option_map, is_some}
use Rattle.std.specs.List.{list_any}
use Rattle.std.specs.Option.{option_map_or}
use Rattle.fc_base.specs.Tables.{Tables, mapping_with}
use Rattle.fc_base.specs.declared.ids.MapId.{MapId}
use Rattle.fc_base.specs.declared.ids.VolId.{VolId}
use Rattle.fc_base.specs.declared.volume.Mapping.{Mapping}
use Rattle.fc_books.specs.Groups.{has_target}

-- In the order of the ids; ids that name none are passed over.
abbrev pub mappings_of : Tables → List MapId → List Mapping
mappings_of t ids = filter_map (mapping_with t) ids

abbrev pub is_known : Tables → MapId → Bool
is_known t id = is_some (mapping_with t id)

-- Whether the id names a mapping that has the volume as target.
abbrev pub is_target_of : Tables → ℕ → MapId → Bool
is_target_of t v id = option_map_or (has_target v) (mapping_with t id) false

-- Source and target of the mapping that an id names.
abbrev pub target_of : Tables → MapId → Option ℕ
target_of t id = option_map (λ (m : Mapping). m.target.0) (mapping_with t id)

abbrev pub source_of : Tables → MapId → Option ℕ
source_of t id = option_map (λ (m : Mapping). m.source.0) (mapping_with t id)

-- Whether two of the mappings have the volume as target, and whether one has.
abbrev pub is_twice : Tables → List MapId → ℕ → Bool
is_twice t ids v = nat_lt 1 (count_by (is_target_of t v) ids)

abbrev pub is_some_target : Tables → List MapId → ℕ → Bool
is_some_target t ids v = list_any (is_target_of t v) ids

-- The number of a volume, if there is one.
abbrev pub ids_of : Option VolId → Option ℕ
ids_of v = option_map (λ (w : VolId). w.0) v

-- The lesser of a number and the least of others, if there are others.
abbrev pub least_with : Option ℕ → ℕ → ℕ
least_with None v = v
least_with (Some other) v = min other v

-- The least so far, with one more number where there is one and it passes the test.
abbrev pub noted : (ℕ → Bool) → Option ℕ → Option ℕ → Option ℕ
noted test None least = least
noted test (Some v) least = cond (test v) (Some (least_with least v)) least
