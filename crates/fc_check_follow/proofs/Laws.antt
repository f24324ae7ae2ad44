-- The laws that this crate stands on.
use Rattle.law_stands.proofs.Deciding.{deciders_law_holds}
use Rattle.law_stands.proofs.Leaving.{commands_law_holds}
use Rattle.law_stands.proofs.Naming.{names_law_holds}
use Rattle.law_stands.proofs.Standing.{stands_law_holds}
use Rattle.law_stands.specs.Commands.{CommandsLaw}
use Rattle.law_stands.specs.Deciders.{DecidersLaw}
use Rattle.law_stands.specs.Names.{NamesLaw}
use Rattle.law_stands.specs.Reached.{StandsLaw}

pub stands : StandsLaw
stands = stands_law_holds

pub names : NamesLaw
names = names_law_holds

pub commands : CommandsLaw
commands = commands_law_holds

pub deciders : DecidersLaw
deciders = deciders_law_holds
