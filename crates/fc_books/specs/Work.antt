-- Background work: two flags of each mapping, set at the end of each command, and only then.
use Rattle.std.specs.Prelude.{Bool, true, false, not, ◌&&◌, ◌||◌, ◌==◌, nat_lt, List, find, filter, map, Option}
use Rattle.std.specs.Option.{option_map_or}
use Rattle.fc_base.specs.declared.decision.LaneEvent.{LaneEvent}
use Rattle.fc_base.specs.declared.decision.LaneEvent.TheVariants.{Work}
use Rattle.fc_base.specs.declared.volume.Mapping.{Mapping}
use Rattle.fc_books.specs.Accesses.{is_copying, is_stopping}
use Rattle.fc_books.specs.Books.{Books}
use Rattle.fc_books.specs.Copies.{is_whole}
use Rattle.fc_pick.specs.declared.work.WorkFlags.{WorkFlags}

-- It is copied: it is copying, incomplete, with a copy rate above 0.
abbrev pub copies : Books → Mapping → Bool
copies b m = is_copying m.state && (not (is_whole b m) && nat_lt 0 m.copy_rate)

-- It is cleaned: its clean rate is above 0, and it is stopping, or copying with copy rate 0, or copying and complete.
abbrev pub cleans : Books → Mapping → Bool
cleans b m = nat_lt 0 m.clean_rate && (is_stopping m.state || (is_copying m.state && ((m.copy_rate == 0) || is_whole b m)))

-- The flags as they stand in the books.
abbrev pub flags_of : Books → Mapping → Option WorkFlags
flags_of b m = find (λ (row : WorkFlags). row.map.0 == m.id.0) b.flags

abbrev pub has_copies : Books → Mapping → Bool
has_copies b m = option_map_or (λ (row : WorkFlags). row.copies) (flags_of b m) false

abbrev pub has_cleans : Books → Mapping → Bool
has_cleans b m = option_map_or (λ (row : WorkFlags). row.cleans) (flags_of b m) false

-- Lanes are told of each mapping, by id, whose flags change.
abbrev pub are_same : Bool → Bool → Bool
are_same true b = b
are_same false b = not b

abbrev pub changes_work : Books → Mapping → Bool
changes_work b m = not (are_same (copies b m) (has_copies b m) && are_same (cleans b m) (has_cleans b m))

unfoldable pub work_events : Books → List LaneEvent
work_events b = map (λ m. Work m.id (copies b m) (cleans b m)) (filter (changes_work b) b.tables.mappings)
