-- The law is proved in `Scopes`.
use Rattle.law_lines.proofs.Scopes.{lines_law_holds}
use Rattle.law_lines.proofs.lines_law.Goals as goal

pub returns : goal.returns
returns c = lines_law_holds
