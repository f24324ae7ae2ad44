-- Those that give way, and then those that are prepared.
use Rattle.std.proofs.Common.{◌∙◌, ap}
use Rattle.fc_base.specs.Tables.{Tables}
use Rattle.fc_starts.proofs.Preparing.{drafted_prepare}
use Rattle.fc_starts.proofs.prestartfcmap.draft_prepare.Goals as goal

pub returns : goal.returns
returns c =
    drafted_prepare c.args.control.now.tables c.args.chosen c.args.restore c.all_mappings-mappings.result.now c.new.result c.in_ok-superseded.superseded c.in_ok-whole.whole
    (c.all_mappings-mappings.ensures.value ∙ ap (λ (t : Tables). t.mappings) c.registry.ensures) c.new.ensures c.in_ok-superseded.ensures c.in_ok-whole.ensures
