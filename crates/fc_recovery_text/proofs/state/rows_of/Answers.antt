use Rattle.std.proofs.Common.{[], ap, ◌∙◌}
use Rattle.fc_base.specs.Tables.{Tables}
use Rattle.fc_check_sheet.specs.View.{Plain}
use Rattle.fc_kept.specs.Images.{kept_in}
use Rattle.fc_recovery_text.proofs.Asking.{answered_rows, asked_listed, asked_small}
use Rattle.fc_recovery_text.proofs.state.rows_of.Goals as goal

pub new-view-requires-clause-small : goal.new-view-requires-clause-small
new-view-requires-clause-small c =
    let plain : Plain = record { sheet = c.in_ok-sheet.sheet; rows = c.new-changes.result; pools = []; rooms = [] } in
    asked_small (kept_in c.args.image.now) c.requires.says plain (λ k. record { sheet = c.in_ok-sheet.ensures k; rows = c.new-changes.ensures k; pools = []; rooms = [] })

pub new-view-requires-clause-listed : goal.new-view-requires-clause-listed
new-view-requires-clause-listed c =
    asked_listed (kept_in c.args.image.now) c.requires.says c.in_ok-sheet.sheet c.all_mappings.result.now c.in_ok-sheet.ensures
    (c.all_mappings.ensures.value ∙ ap (λ (t : Tables). t.mappings) c.in_ok-registry.ensures)

pub returns : goal.returns
returns c =
    answered_rows c.args.grain c.args.image.now c.in_ok-registry.registry.tables c.new-view.result c.all_rows.result c.in_ok-registry.ensures
    (c.new-view.ensures ∙ (λ k. record { sheet = c.in_ok-sheet.ensures k; rows = c.new-changes.ensures k; pools = []; rooms = c.new-rooms.ensures k }))
    c.all_rows.ensures
