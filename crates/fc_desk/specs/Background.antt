-- Background work of a mapping as it will stand: by whether its copy will be whole.
use Rattle.std.specs.Prelude.{Bool, false, cond, not, ◌&&◌, ◌||◌, ◌==◌, nat_le, nat_lt, List, [], ◌∷◌, find}
use Rattle.std.specs.Option.{option_map_or}
use Rattle.fc_base.specs.Sheet.{Slot}
use Rattle.fc_base.specs.SheetView.{held_of, count_true}
use Rattle.fc_base.specs.declared.decision.LaneEvent.{LaneEvent}
use Rattle.fc_base.specs.declared.decision.LaneEvent.TheVariants.{Work}
use Rattle.fc_base.specs.declared.volume.Mapping.{Mapping}
use Rattle.fc_base.specs.declared.volume.Volume.{Volume}
use Rattle.fc_books.specs.Accesses.{is_copying, is_stopping}
use Rattle.fc_books.specs.Work.{are_same}
use Rattle.fc_desk.specs.Telling.{row_of}
use Rattle.fc_pick.specs.declared.work.WorkFlags.{WorkFlags}

abbrev pub copies_as : Bool → Mapping → Bool
copies_as whole m = is_copying m.state && (not whole && nat_lt 0 m.copy_rate)

abbrev pub cleans_as : Bool → Mapping → Bool
cleans_as whole m = nat_lt 0 m.clean_rate && (is_stopping m.state || (is_copying m.state && ((m.copy_rate == 0) || whole)))

-- Its flags, where they change.
abbrev pub work_as : List WorkFlags → Bool → Mapping → List LaneEvent
work_as flags whole m =
    let row = row_of flags m in
    cond
    (not
    (are_same (copies_as whole m) (option_map_or (λ (r : WorkFlags). r.copies) row false)
    && are_same (cleans_as whole m) (option_map_or (λ (r : WorkFlags). r.cleans) row false)))
    (Work m.id (copies_as whole m) (cleans_as whole m) ∷ [])
    []

-- Whether the mapping's slot holds every grain.
abbrev pub whole_in : List Volume → List Slot → Mapping → Bool
whole_in volumes slots m =
    nat_le (option_map_or (λ (v : Volume). v.grains) (find (λ (v : Volume). m.target.0 == v.id.0) volumes) 0) (count_true (held_of slots m.id.0))
