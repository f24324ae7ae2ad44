use Rattle.fc_tallies.proofs.Nexts.{none_needed}
use Rattle.fc_tallies.proofs.next.next_needed.Goals as goal

pub returns-in-None-clause-value : goal.returns-in-None-clause-value
returns-in-None-clause-value c = (none_needed c.args.slots.now c.args.place c.in-None.ensures).value
