-- The mappings that a command prepares or starts, and those that give way to them.
use Rattle.std.specs.Prelude.{Bool, not, ◌&&◌, ◌==◌, List, filter}
use Rattle.std.specs.List.{list_any}
use Rattle.fc_base.specs.Tables.{Tables}
use Rattle.fc_base.specs.declared.request.Pair.{Pair}
use Rattle.fc_base.specs.declared.volume.Mapping.{Mapping}
use Rattle.fc_books.specs.Accesses.{is_stopped}
use Rattle.fc_books.specs.Groups.{is_member}
use Rattle.fc_starts.specs.declared.chosen.Chosen.{Chosen}
use Rattle.fc_starts.specs.declared.chosen.Chosen.TheVariants.{One, Members}

-- A stopped mapping gives way to the mappings of these pairs: one of them has its target, and none is its own.
abbrev pub yields_to : List Pair → Mapping → Bool
yields_to pairs s =
    is_stopped s.state && (list_any (λ (p : Pair). p.target.0 == s.target.0) pairs && not (list_any (λ (p : Pair). p.map.0 == s.id.0) pairs))

-- The mappings that a command prepares or starts: one, or the members of a group.
abbrev pub is_chosen : Chosen → Mapping → Bool
is_chosen (One id) m = id.0 == m.id.0
is_chosen (Members g) m = is_member g m

abbrev pub chosen_of : Tables → Chosen → List Mapping
chosen_of t chosen = filter (is_chosen chosen) t.mappings
