-- It asks for the fault alone.
use Rattle.fc_agenda.specs.Goes.{stays}
use Rattle.fc_noted.proofs.Opening.{with_script}
use Rattle.fc_script.specs.declared.script.Script.TheVariants.{Unread}
use Rattle.fc_noted.proofs.noted.Noted.begin_unread.Goals as goal

pub returns-clause-line : goal.returns-clause-line
returns-clause-line g c w up read = stays

pub returns-clause-at : goal.returns-clause-at
returns-clause-at g c history w least at =
    with_script g.M.MetaDisk.seen g.M.MetaDisk.may_leave c.args.self.now (Unread c.args.fault) history w least tt at
