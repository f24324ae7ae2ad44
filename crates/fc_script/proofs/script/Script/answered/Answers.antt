-- Script by script.
use Rattle.std.proofs.Common.{◌≡◌, ◌≢◌, ◌+◌, [], length, deque_len, OnOk, ap, subst, sym, arith}
use Rattle.std.proofs.lemmas.Bool.{eqb-false, eqb-true}
use Rattle.fc_base.specs.declared.behind.Behind.{Behind}
use Rattle.fc_base.specs.declared.command.Command.{Command}
use Rattle.fc_legal.specs.Agenda.{behind_last}
use Rattle.fc_legal.specs.Whole.{Whole}
use Rattle.fc_script.specs.Asking.{IsAnswer, IsLeft}
use Rattle.fc_script.specs.Passage.{GoesOn}
use Rattle.fc_script.specs.Script.{agenda_of}
use Rattle.fc_script.specs.declared.script.Script.{Script}
use Rattle.fc_script.specs.declared.script.Script.TheVariants.{Lines, Over, Parts, Seconds as Passes}
use Rattle.fc_stands.specs.Store.{StandsFor}
use Rattle.fc_script.proofs.Left.{alone_left, followed, one_left, parts_last, parts_more}
use Rattle.fc_script.proofs.Presets.{lines_last, lines_more}
use Rattle.fc_script.proofs.script.Script.answered.Goals as goal

pub returns-then-next-last : goal.returns-then-next-last
returns-then-next-last g c = λ w v answer stands.
    let new : Script = Parts c.in-Parts.access c.in-Parts.volume c.in-Parts.block c.in-Parts.count (c.in-Parts.next + 1) c.in-Parts.last in
    subst (λ (x : Script). IsLeft c.args.store.now.control.grain x w c.args.entry.now v new) (sym c.in-Parts.is)
    (parts_more c.args.store.now.control.grain c.in-Parts.access c.in-Parts.volume c.in-Parts.block c.in-Parts.count c.in-Parts.next c.in-Parts.last w c.args.entry.now v
    (subst (λ (x : Script). IsAnswer c.args.store.now.control.grain x w c.args.entry.now v) c.in-Parts.is answer) (omega (arith, c.if-next-last.true)))

pub returns-else-next-last : goal.returns-else-next-last
returns-else-next-last g c = λ w v answer stands.
    subst (λ (x : Script). IsLeft c.args.store.now.control.grain x w c.args.entry.now v Over) (sym c.in-Parts.is)
    (parts_last c.args.store.now.control.grain c.in-Parts.access c.in-Parts.volume c.in-Parts.block c.in-Parts.count c.in-Parts.next c.in-Parts.last w c.args.entry.now v
    (subst (λ (x : Script). IsAnswer c.args.store.now.control.grain x w c.args.entry.now v) c.in-Parts.is answer) (omega (arith, c.if-next-last.false)))

pub returns-in_ok-self-in-Command : goal.returns-in_ok-self-in-Command
returns-in_ok-self-in-Command g c = λ w v answer stands.
    subst (λ (x : Script). IsLeft c.args.store.now.control.grain x w c.args.entry.now v c.in_ok-self-in-Command.field-0) (sym c.in-Command.is)
    (alone_left c.args.store.now.control.grain c.in-Command.command w c.args.entry.now v c.in_ok-self-in-Command.field-0 c.seconds_of.result c.seconds_of.ensures (c.in_ok-self-in-Command.ensures.goes v stands)
    (c.in_ok-self-in-Command.ensures.fits c.args.store.now.control.grain v.books.tables))

pub returns-in-Seconds : goal.returns-in-Seconds
returns-in-Seconds g c =
    subst (λ (x : Script). OnOk c.follow.result ((w : Whole) (next : Whole) → IsAnswer c.args.store.now.control.grain x w c.args.entry.now next → StandsFor c.args.store.now next →
    IsLeft c.args.store.now.control.grain x w c.args.entry.now next (Passes c.follow.new.self))) (sym c.in-Seconds.is)
    (followed c.follow.result c.args.store.now c.in-Seconds.passage c.follow.new.self c.args.entry.now c.has_moved.result c.has_moved.ensures c.follow.ensures)

pub returns-in-Over : goal.returns-in-Over
returns-in-Over g c = λ w v answer stands. one_left c.args.store.now.control.grain c.args.self.now w c.args.entry.now v c.in-Over.is answer

pub returns-then-not-is_empty : goal.returns-then-not-is_empty
returns-then-not-is_empty g c = λ w v answer stands.
    let some : deque_len c.pop_front-answered.new.self ≢ 0 = eqb-false (deque_len c.pop_front-answered.new.self) 0 (sym c.if-not-is_empty.ensures) in
    subst (λ (x : Script). IsLeft c.args.store.now.control.grain x w c.args.entry.now v (Lines c.pop_front-answered.new.self c.in-Lines.behind)) (sym c.in-Lines.is)
    (lines_more c.args.store.now.control.grain c.in-Lines.commands c.in-Lines.behind w c.args.entry.now v c.pop_front-answered.new.self c.pop_front-answered.ensures.rest (omega (arith, some)))

pub returns-in_ok-self-in-Lines : goal.returns-in_ok-self-in-Lines
returns-in_ok-self-in-Lines g c = λ w v answer stands.
    let none : deque_len c.pop_front-answered.new.self ≡ 0 = eqb-true (deque_len c.pop_front-answered.new.self) 0 (sym c.if-not-is_empty.ensures) in
    subst (λ (x : Script). IsLeft c.args.store.now.control.grain x w c.args.entry.now v c.in_ok-self-in-Lines.field-0) (sym c.in-Lines.is)
    (lines_last c.args.store.now.control.grain c.in-Lines.commands c.in-Lines.behind w c.args.entry.now v c.in_ok-self-in-Lines.field-0 (omega (arith, ap (length {A = Command}) c.pop_front-answered.ensures.rest, none))
    (subst (λ (x : Script). IsAnswer c.args.store.now.control.grain x w c.args.entry.now v) c.in-Lines.is answer)
    (subst (λ (b : Behind). GoesOn c.args.store.now.control.grain v (behind_last v c.args.entry.now.reply b []) (agenda_of c.args.store.now.control.grain c.in_ok-self-in-Lines.field-0)) c.replace-behind.ensures.value
    (c.in_ok-self-in-Lines.ensures.goes v stands))
    (c.in_ok-self-in-Lines.ensures.fits c.args.store.now.control.grain v.books.tables))
