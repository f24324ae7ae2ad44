-- The next step makes what its kind makes.
use Rattle.fc_noted.proofs.noted.Noted.go_on.Goals as goal

pub returns-in-Some-clause-made : goal.returns-in-Some-clause-made
returns-in-Some-clause-made g c = c.put_due.ensures.made c.args.history.now

pub returns-in-Own-clause-made : goal.returns-in-Own-clause-made
returns-in-Own-clause-made g c = c.own.ensures.made c.args.history.now

pub returns-in-Move-clause-made : goal.returns-in-Move-clause-made
returns-in-Move-clause-made g c = c.make_move.ensures.made c.args.history.now
