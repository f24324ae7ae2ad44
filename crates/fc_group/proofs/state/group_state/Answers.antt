-- The state by tests of all mappings.
use Rattle.std.proofs.Common.{◌≡◌, ◌∙◌, sym, ap, true, false, Bool, List}
use Rattle.std.specs.List.{list_any}
use Rattle.fc_base.specs.Tables.{Tables}
use Rattle.fc_base.specs.declared.ids.GroupId.{GroupId}
use Rattle.fc_base.specs.declared.state.MapState.{MapState}
use Rattle.fc_base.specs.declared.state.MapState.TheVariants.{Empty}
use Rattle.fc_base.specs.declared.volume.Mapping.{Mapping}
use Rattle.fc_books.specs.Groups.{is_member, group_state}
use Rattle.fc_group.specs.States.{first_state_of}
use Rattle.fc_group.proofs.Members.{group_state-some, group_state-none}
use Rattle.fc_group.proofs.state.group_state.Goals as goal

with_member : (t : Tables) (g : GroupId) (maps : List Mapping) (has : Bool) (state : MapState) → maps ≡ t.mappings → has ≡ list_any (is_member g) maps → has ≡ true → state ≡ first_state_of g maps → state ≡ group_state t g
with_member t g maps has state e h is_there s =
    s ∙ ap (first_state_of g) e ∙ sym (group_state-some t g (sym (ap (list_any (is_member g)) e) ∙ sym h ∙ is_there))

without_member : (t : Tables) (g : GroupId) (maps : List Mapping) (has : Bool) → maps ≡ t.mappings → has ≡ list_any (is_member g) maps → has ≡ false → Empty ≡ group_state t g
without_member t g maps has e h none =
    sym (group_state-none t g (sym (ap (list_any (is_member g)) e) ∙ sym h ∙ none))

pub returns-then-has_member : goal.returns-then-has_member
returns-then-has_member c =
    with_member c.args.registry.now.tables c.args.group c.all_mappings-mappings.result.now c.has_member.result c.first_state.result
    c.all_mappings-mappings.ensures.value c.has_member.ensures c.if-has_member.true c.first_state.ensures

pub returns-else-has_member : goal.returns-else-has_member
returns-else-has_member c =
    without_member c.args.registry.now.tables c.args.group c.all_mappings-mappings.result.now c.has_member.result
    c.all_mappings-mappings.ensures.value c.has_member.ensures c.if-has_member.false
