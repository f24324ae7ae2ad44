-- Its seconds, or nothing.
use Rattle.fc_script.proofs.Left.{seconds_behind, timeless_behind, undone_behind}
use Rattle.fc_script.proofs.script.behind_command.Goals as goal

pub returns-then-not-done-clause-goes : goal.returns-then-not-done-clause-goes
returns-then-not-done-clause-goes g c = λ w stands. undone_behind c.args.store.now.control.grain w c.args.done c.args.seconds c.if-not-done.true

pub returns-then-seconds-eq0-clause-goes : goal.returns-then-seconds-eq0-clause-goes
returns-then-seconds-eq0-clause-goes g c = λ w stands. timeless_behind c.args.store.now.control.grain w c.args.done c.args.seconds c.if-seconds-eq0.true

pub returns-in-Ok-clause-goes : goal.returns-in-Ok-clause-goes
returns-in-Ok-clause-goes g c = λ w stands.
    seconds_behind c.args.store.now.control.grain w c.args.done c.args.seconds c.begin.result c.in-Ok.works.items c.if-not-done.false
    (c.begin.ensures c.args.store.now.control.grain) (c.in-Ok.ensures w stands)
