-- The dependents that haven't left.
use Rattle.std.proofs.Common.{◌≡◌, ◌∙◌, ap, not, filter, rules}
use Rattle.fc_base.specs.SheetView.{DependsOn}
use Rattle.fc_base.specs.declared.ids.MapId.{MapId}
use Rattle.fc_stops.specs.Stops.{changes_some}
use Rattle.fc_stops.proofs.StopCode.{those_left}
use Rattle.fc_stops.proofs.stopfcconsistgrp.dependents_left.Goals as goal

pub returns : goal.returns
returns g c =
    let same : c.as_slice.result.now ≡ c.in_ok-dependents.dependents = search rules in
    those_left (DependsOn (g.S.Sheet.meaning c.args.sheet.now).sheet.slots c.args.map.0) c.args.changes.now c.in_ok-dependents.dependents c.in_ok-left.left c.in_ok-dependents.ensures
    (c.in_ok-left.ensures ∙ ap (filter (λ (id : MapId). not (changes_some id.0 c.args.changes.now))) same)
