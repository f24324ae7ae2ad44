-- Those that give way, the trigger, and those that start.
use Rattle.std.proofs.Common.{◌∙◌, ap}
use Rattle.fc_base.specs.Tables.{Tables}
use Rattle.fc_starts.proofs.Started.{drafted_start}
use Rattle.fc_starts.proofs.trigger.draft_start.Goals as goal

pub returns : goal.returns
returns c =
    drafted_start c.args.control.now.tables c.args.chosen c.args.prep c.args.restore c.all_mappings-mappings.result.now c.in_ok-prepared.prepared c.in_ok-triggered.triggered c.in_ok-whole.whole
    (c.all_mappings-mappings.ensures.value ∙ ap (λ (t : Tables). t.mappings) c.registry.ensures) c.in_ok-prepared.ensures c.in_ok-triggered.ensures c.in_ok-whole.ensures
