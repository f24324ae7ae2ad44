-- The law is proved in `Lawful`.
use Rattle.fc_check_lines.proofs.Lawful.{lines_law_holds}
use Rattle.fc_check_lines.proofs.laws.lines_law.Goals as goal

pub returns : goal.returns
returns c = lines_law_holds
