-- What an entry does, action by action. A stop falls into one of them, or between two.
use Rattle.std.specs.Prelude.{ℕ, ◌+◌, Bool, ◌==◌, ◌&&◌, ◌||◌, not, if◌then◌else◌, List, [], ◌∷◌, ◌++◌, length, Option, Some, None}
use Rattle.std.specs.List.{list_any}
use Rattle.fc_base.specs.declared.decision.Decision.{Decision}
use Rattle.fc_base.specs.declared.request.Move.{Move}
use Rattle.fc_base.specs.declared.request.Torn.{Torn as TornGrain}
use Rattle.fc_changed.specs.Notes.{has}
use Rattle.fc_changed.specs.Row.{Row, row_names}
use Rattle.fc_image.specs.declared.record.MetaRecord.{MetaRecord}
use Rattle.fc_image.specs.declared.record.MetaRecord.TheVariants.{Pair, Written, Torn, Changing}
use Rattle.fc_rules.specs.Steps.{DiskStep}

-- The calls of data disks of a step; a record for metadata; or all of metadata anew.
pub data Action : Type 0 where
  Data : DiskStep → Action
  Note : MetaRecord → Action
  Fold : Action

-- A move: its data, if it copies any, and then its record. Where it copies none and isn't in place, there is nothing to copy,
-- since the grain is lost.
abbrev pub data_of : DiskStep → List Action
data_of step = if step.calls == 0 then [] else Data step ∷ []

abbrev pub record_of_move : DiskStep → Move → MetaRecord
record_of_move step m = Pair m.slot m.volume m.grain m.in_place ((step.calls == 0) && not m.in_place)

abbrev pub actions_of_move : DiskStep → Move → List Action
actions_of_move step m = data_of step ++ Note (record_of_move step m) ∷ []

-- A write's own step at a grain: where a mapping that is followed names the volume, and the grain isn't changed for it, first the
-- record that it changes; then its data, and then its record.
abbrev pub is_unmarked : ℕ → ℕ → Row → Bool
is_unmarked v g row = row_names row v && has row.same g

abbrev pub mark_of : List Row → ℕ → ℕ → List Action
mark_of rows v g = if list_any (is_unmarked v g) rows then Note (Changing record { 0 = v } record { 0 = g }) ∷ [] else []

abbrev pub actions_of_own : List Row → DiskStep → ℕ → List Action
actions_of_own rows step g =
    mark_of rows step.volume g ++ Data step ∷ Note (Written record { 0 = step.volume } record { 0 = g }) ∷ []

-- Behind the data of a step that failed: the record of what they tore, if anything.
abbrev pub actions_of_stop : Option TornGrain → List Action
actions_of_stop None = []
actions_of_stop (Some torn) = Note (Torn torn.volume torn.grain torn.side) ∷ []

-- A command: metadata anew, where it or the settling before it has effects or changes the tables.
abbrev pub has_effect : Decision → Bool
has_effect d = not (length d.effects + length d.changes == 0)

abbrev pub actions_of_command : (settling command : Decision) → List Action
actions_of_command settling command = if has_effect settling || has_effect command then Fold ∷ [] else []
