-- What preparing and starting mappings does, alone or as the members of a group, where it isn't refused.
use Rattle.std.specs.Prelude.{Bool, cond, not, ◌&&◌, ◌==◌, List, [], ◌∷◌, map, filter}
use Rattle.std.specs.List.{list_any}
use Rattle.fc_base.specs.Tables.{Tables}
use Rattle.fc_base.specs.declared.decision.LaneEvent.TheVariants.{Trigger}
use Rattle.fc_base.specs.declared.request.Effect.TheVariants.{Trigger as Triggered, State}
use Rattle.fc_base.specs.declared.request.Pair.{Pair}
use Rattle.fc_base.specs.declared.state.MapState.{MapState}
use Rattle.fc_base.specs.declared.state.MapState.TheVariants.{IdleOrCopied, Prepared, Copying}
use Rattle.fc_base.specs.declared.volume.Change.TheVariants.{SetMapping}
use Rattle.fc_base.specs.declared.volume.Mapping.{Mapping}
use Rattle.fc_books.specs.Accesses.{is_stopped}
use Rattle.fc_books.specs.Books.{Deed, nothing, ◌then◌, all_deeds}
use Rattle.fc_books.specs.Ending.{in_state, comes_to}

-- Mappings that begin to prepare take every other stopped mapping with one of their targets to idle_or_copied.
abbrev pub is_superseded : List Mapping → Mapping → Bool
is_superseded maps s =
    is_stopped s.state && (list_any (λ (m : Mapping). m.target.0 == s.target.0) maps && not (list_any (λ (m : Mapping). m.id.0 == s.id.0) maps))

abbrev pub gives_way : Mapping → Deed
gives_way s = record { effects = State s.id IdleOrCopied ∷ []; events = []; changes = SetMapping (in_state IdleOrCopied s) ∷ [] }

abbrev pub supersedes : Tables → List Mapping → Deed
supersedes t maps = all_deeds gives_way (filter (is_superseded maps) t.mappings)

-- A mapping comes into an active state, with the option `-restore` or without it.
abbrev pub begins : MapState → Bool → Mapping → Deed
begins state restore m = comes_to state (record m { restoring = restore })

-- They are prepared.
abbrev pub prepare : Bool → Tables → List Mapping → Deed
prepare restore t maps = supersedes t maps then all_deeds (begins Prepared restore) maps

-- They are triggered, all at once. Those that are started with `-prep` are prepared in the same step.
abbrev pub pair_of : Mapping → Pair
pair_of m = record { map = m.id; source = m.source; target = m.target; incremental = m.incremental }

abbrev pub triggers : List Mapping → Deed
triggers maps =
    record { effects = Triggered (map pair_of maps) ∷ []; events = Trigger (map pair_of maps) ∷ []; changes = [] }

abbrev pub start : Bool → Bool → Tables → List Mapping → Deed
start prep restore t maps =
    cond prep (supersedes t maps) nothing then (triggers maps then all_deeds (begins Copying restore) maps)
