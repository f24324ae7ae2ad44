-- The background work of mappings, by their flags.
use Rattle.std.specs.Prelude.{Bool, true, false, cond, ◌++◌, filter, map, List}
use Rattle.std.specs.Option.{option_map_or}
use Rattle.fc_base.specs.Rates.{kib_of_rate}
use Rattle.fc_base.specs.declared.volume.Mapping.{Mapping}
use Rattle.fc_desk.specs.Telling.{row_of}
use Rattle.fc_legal.specs.Seconds.{Work}
use Rattle.fc_pick.specs.declared.work.WorkFlags.{WorkFlags}

-- The cleanings of a mapping, or its copies, without credit.
abbrev pub work_of : Bool → Mapping → Work
work_of cleans m = record { map = m.id; cleans = cleans; gain = kib_of_rate (cond cleans m.clean_rate m.copy_rate); credit = 0 }

-- It has the flag for its cleanings, or for its copies.
abbrev pub has_flag : Bool → List WorkFlags → Mapping → Bool
has_flag cleans flags m = option_map_or (λ (row : WorkFlags). cond cleans row.cleans row.copies) (row_of flags m) false

-- All work of one kind, and all background work: copies first, each by mapping.
abbrev pub works_of : Bool → List WorkFlags → List Mapping → List Work
works_of cleans flags ms = map (work_of cleans) (filter (has_flag cleans flags) ms)

abbrev pub works_by : List WorkFlags → List Mapping → List Work
works_by flags ms = works_of false flags ms ++ works_of true flags ms
