-- The control part's tables and flags are those of the books.
use Rattle.std.proofs.Common.{ap, ap₂, ◌∙◌}
use Rattle.fc_base.specs.Tables.{Tables}
use Rattle.fc_lanes.specs.Working.{works_by}
use Rattle.fc_stands.proofs.Working.{all_listed}
use Rattle.fc_store.proofs.advance.work_by.Goals as goal

pub returns-in-Ok : goal.returns-in-Ok
returns-in-Ok c = λ b is.
    all_listed c.args.control.now b c.in-Ok.works.items is
    (c.in-Ok.ensures ∙ ap₂ works_by c.flags-flags.ensures (c.all_mappings-mappings.ensures.value ∙ ap (λ (t : Tables). t.mappings) c.registry.ensures))
