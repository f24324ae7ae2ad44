-- What is asked next begins.
use Rattle.std.proofs.Common.{Some, ap, subst, ◌∙◌}
use Rattle.fc_lanes.specs.declared.access.Access.{Access}
use Rattle.fc_script.specs.Asking.{HasNextFill, IsNext, work_of}
use Rattle.fc_script.specs.Script.{agenda_of}
use Rattle.fc_script.specs.declared.asking.Asked.TheVariants.{Part}
use Rattle.fc_script.specs.declared.asking.Asked.{Asked}
use Rattle.fc_noted.proofs.noted.Noted.begin.Goals as goal

pub read-requires-clause-next : goal.read-requires-clause-next
read-requires-clause-next g c = λ w up.
    subst (λ (a : Asked). IsNext c.args.self.now.store.control.grain w (Some a) (agenda_of c.args.self.now.store.control.grain c.args.self.now.script))
    (c.in-Part.is ∙ ap (λ (a : Access). Part a c.in-Part.volume c.in-Part.block c.in-Part.count c.in-Part.grain) c.in-Read.is) (c.requires.next w up)

pub begin_write-requires-clause-next : goal.begin_write-requires-clause-next
begin_write-requires-clause-next g c = λ w up.
    subst (λ (a : Asked). IsNext c.args.self.now.store.control.grain w (Some a) (agenda_of c.args.self.now.store.control.grain c.args.self.now.script))
    (c.in-Part.is ∙ ap (λ (a : Access). Part a c.in-Part.volume c.in-Part.block c.in-Part.count c.in-Part.grain) c.in-Write.is) (c.requires.next w up)

pub begin_fill-requires-clause-next : goal.begin_fill-requires-clause-next
begin_fill-requires-clause-next g c = λ w up.
    subst (λ (a : Asked). IsNext c.args.self.now.store.control.grain w (Some a) (agenda_of c.args.self.now.store.control.grain c.args.self.now.script)) c.in-Fill.is (c.requires.next w up)

pub begin_fill-requires-clause-fill : goal.begin_fill-requires-clause-fill
begin_fill-requires-clause-fill g c = λ w up.
    subst (λ (a : Asked). HasNextFill c.args.self.now.store.control.grain w (work_of c.args.self.now.script) a) c.in-Fill.is (c.requires.fill w up)
