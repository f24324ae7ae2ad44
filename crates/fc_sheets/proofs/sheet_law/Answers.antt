-- The law is proved in `Lawful`.
use Rattle.fc_sheets.proofs.Lawful.{sheet_law_holds}
use Rattle.fc_sheets.proofs.sheet_law.Goals as goal

pub returns : goal.returns
returns c = sheet_law_holds
