-- Members of a group that are stopped one after the other.
use Rattle.std.specs.Prelude.{◌≡◌, ℕ, Bool, true, false, not, ◌&&◌, List, [], ◌∷◌, map, filter, Option, ◌↔◌}
use Rattle.fc_base.specs.Sheet.{Slot}
use Rattle.fc_base.specs.SheetView.{AreMappings, ReadsMapping, DependsOn}
use Rattle.fc_base.specs.Tables.{mapping_with}
use Rattle.fc_base.specs.declared.command.StopWay.{StopWay}
use Rattle.fc_base.specs.declared.command.StopWay.TheVariants.{Plain, Force, Split}
use Rattle.fc_base.specs.declared.fault.Refusal.{Refusal}
use Rattle.fc_base.specs.declared.fault.Refusal.TheVariants.{NotAllowed}
use Rattle.fc_base.specs.declared.ids.GroupId.{GroupId}
use Rattle.fc_base.specs.declared.ids.MapId.{MapId}
use Rattle.fc_base.specs.declared.volume.Change.{Change}
use Rattle.fc_base.specs.declared.volume.Mapping.{Mapping}
use Rattle.fc_books.specs.Books.{Books, Deed}
use Rattle.fc_books.specs.Groups.{is_member, members, acts_on, some_in, group_state}
use Rattle.fc_books.specs.RefusedStarts.{empty_group, for_each, split_refusals}
use Rattle.fc_books.specs.Stopping.{stops_member, one_by_one}
use Rattle.fc_entry.specs.Refused.{first_of, where_}
use Rattle.fc_stops.specs.Stops.{changes_some}

-- What is done of one member on the books that the last left, and of all members among the first mappings.
abbrev pub one_stop : StopWay → Books → MapId → Deed
one_stop way books id = stops_member way books (mapping_with books.tables id)

abbrev pub stops_of : StopWay → Books → List Mapping → Deed
stops_of way b maps = one_by_one (λ m. []) (one_stop way) b (map (λ (m : Mapping). m.id) maps)

abbrev pub stops_in_group : StopWay → GroupId → Books → List Mapping → Deed
stops_in_group way g b maps = stops_of way b (filter (is_member g) maps)

-- What the chains before all stops tell of the chains that the stops so far left: a slot is needed by those that haven't
-- left, and by force those that haven't left are stopped with it.
abbrev pub IsLeftAnswer : StopWay → List Slot → List Change → ℕ → Bool → List MapId → Type 0
IsLeftAnswer Plain slots changes m needed ids =
    ((needed ≡ true) ↔ ((n : ℕ) × ReadsMapping slots m n × (changes_some n changes ≡ false))) × (ids ≡ [])
IsLeftAnswer Force slots changes m needed ids =
    AreMappings (λ n. DependsOn slots m n × (changes_some n changes ≡ false)) ids
IsLeftAnswer Split slots changes m needed ids = ids ≡ []

-- Whether a stop acts on a mapping as a member of the group, and whether it is stopped after these changes.
abbrev pub is_acted : StopWay → GroupId → Mapping → Bool
is_acted way g m = is_member g m && acts_on way m.state

abbrev pub stops_now : StopWay → GroupId → List Change → Mapping → Bool
stops_now way g changes m = is_acted way g m && not (changes_some m.id.0 changes)

-- Whether a stop of the group is refused: without members; where it acts on none; or as a split of an incomplete copy.
abbrev pub refused_group : StopWay → Books → GroupId → Option Refusal
refused_group way b g =
    let maps = members b.tables g in
    first_of
    (empty_group maps
    ∷ where_ (not (some_in (acts_on way) maps)) (NotAllowed (group_state b.tables g))
    ∷ for_each (split_refusals way b) maps
    ∷ [])
