-- The law is proved in `Deciding`.
use Rattle.law_stands.proofs.Deciding.{deciders_law_holds}
use Rattle.law_stands.proofs.deciders_law.Goals as goal

pub returns : goal.returns
returns c = deciders_law_holds
