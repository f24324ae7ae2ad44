-- Some reader that hasn't left.
use Rattle.std.proofs.Common.{◌≡◌, ◌∙◌, ap, not, rules}
use Rattle.std.specs.List.{list_any}
use Rattle.fc_base.specs.SheetView.{ReadsMapping}
use Rattle.fc_base.specs.declared.ids.MapId.{MapId}
use Rattle.fc_stops.specs.Stops.{changes_some}
use Rattle.fc_stops.proofs.StopCode.{needed_left}
use Rattle.fc_stops.proofs.stopfcconsistgrp.is_needed_left.Goals as goal

pub returns : goal.returns
returns g c =
    let same : c.as_slice.result.now ≡ c.in_ok-readers.readers = search rules in
    needed_left (ReadsMapping (g.S.Sheet.meaning c.args.sheet.now).sheet.slots c.args.map.0) c.args.changes.now c.in_ok-readers.readers c.some_unchanged-needed.result c.in_ok-readers.ensures
    (c.some_unchanged-needed.ensures ∙ ap (list_any (λ (id : MapId). not (changes_some id.0 c.args.changes.now))) same)
