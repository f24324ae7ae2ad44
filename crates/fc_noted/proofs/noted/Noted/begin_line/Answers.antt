use Rattle.fc_noted.proofs.Opening.{with_script}
use Rattle.fc_noted.proofs.noted.Noted.begin_line.Goals as goal

pub of_line-requires : goal.of_line-requires
of_line-requires g c = record { stands = (c.requires.at.1, c.requires.at.3.told.0) }

pub returns-in-Ok-clause-at : goal.returns-in-Ok-clause-at
returns-in-Ok-clause-at g c history w least at =
    with_script g.M.MetaDisk.seen g.M.MetaDisk.may_leave c.args.self.now c.in-Ok.script history w least c.in-Ok.ensures.fits at
