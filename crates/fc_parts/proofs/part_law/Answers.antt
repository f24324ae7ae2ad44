-- The law is proved in `Lawful`.
use Rattle.fc_parts.proofs.Lawful.{part_law_holds}
use Rattle.fc_parts.proofs.part_law.Goals as goal

pub returns : goal.returns
returns c = part_law_holds
