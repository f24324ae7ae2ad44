-- The laws that this crate stands on.
use Rattle.fc_check_lines.proofs.Lawful.{lines_law_holds}
use Rattle.fc_check_lines.specs.Law.{LinesLaw}
use Rattle.law_stands.proofs.Deciding.{deciders_law_holds}
use Rattle.law_stands.proofs.Naming.{names_law_holds}
use Rattle.law_stands.proofs.Standing.{stands_law_holds}
use Rattle.law_stands.specs.Deciders.{DecidersLaw}
use Rattle.law_stands.specs.Names.{NamesLaw}
use Rattle.law_stands.specs.Reached.{StandsLaw}

pub lines : LinesLaw
lines = lines_law_holds

pub names : NamesLaw
names = names_law_holds

pub stands : StandsLaw
stands = stands_law_holds

pub deciders : DecidersLaw
deciders = deciders_law_holds
