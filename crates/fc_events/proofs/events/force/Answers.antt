use Rattle.fc_base.specs.SheetStep.{forced_map}
use Rattle.fc_events.proofs.Rising.{first_fits, force_rises}
use Rattle.fc_events.proofs.events.force.Goals as goal

pub force_one-requires-clause-births : goal.force_one-requires-clause-births
force_one-requires-clause-births c = first_fits forced_map force_rises c.args.table.now.sheet c.args.map c.args.dependents.now c.requires.births
