-- Script by script.
use Rattle.std.proofs.Common.{Option, Some, None, refl, subst, sym, arith}
use Rattle.fc_base.specs.declared.fault.Refusal.TheVariants.{Words}
use Rattle.fc_base.specs.declared.ids.GrainNo.{GrainNo}
use Rattle.fc_base.specs.declared.request.Request.TheVariants.{Unread as UnreadAsked}
use Rattle.fc_script.specs.Asking.{Fits, IsNextOf}
use Rattle.fc_script.specs.Passage.{PassesUpTo}
use Rattle.fc_script.specs.declared.asking.Asked.TheVariants.{Refused, Part}
use Rattle.fc_script.specs.declared.script.Script.{Script}
use Rattle.fc_script.specs.declared.script.Script.TheVariants.{Over, Unread, Command as Alone, Parts, Seconds as Passes, Lines}
use Rattle.fc_script.proofs.Next.{alone_next, next_as, over_next, parts_next, seconds_next, seconds_over, unread_next}
use Rattle.fc_script.proofs.Presets.{first_asks_itself, lines_next, no_lines_next}
use Rattle.fc_script.proofs.script.Script.next.Goals as goal

pub returns-in-Over : goal.returns-in-Over
returns-in-Over g c = next_as c.args.store.now c.args.self.now _ Over Over None c.in-Over.is (cc c.in-Over.is) (over_next c.args.store.now)

pub returns-in-Unread : goal.returns-in-Unread
returns-in-Unread g c =
    next_as c.args.store.now c.args.self.now _ (Unread c.in-Unread.fault) (Unread c.in-Unread.fault) (Some (Refused (UnreadAsked c.in-Unread.fault) (Words c.in-Unread.fault)))
    c.in-Unread.is refl (unread_next c.args.store.now c.in-Unread.fault)

pub returns-in_ok-ask_command-in-Command : goal.returns-in_ok-ask_command-in-Command
returns-in_ok-ask_command-in-Command g c =
    next_as c.args.store.now c.args.self.now _ (Alone c.in-Command.command) (Alone c.in-Command.command) (Some c.in_ok-ask_command-in-Command.field-0) c.in-Command.is refl
    (alone_next c.args.store.now c.in-Command.command c.in_ok-ask_command-in-Command.field-0
    (subst (λ (x : Script). Fits c.args.store.now.control.grain c.args.store.now.control.tables x) c.in-Command.is c.requires.fits) c.in_ok-ask_command-in-Command.ensures.request c.in_ok-ask_command-in-Command.ensures.can c.in_ok-ask_command-in-Command.ensures.no_fill)

pub returns-in-Parts : goal.returns-in-Parts
returns-in-Parts g c =
    let script : Script = Parts c.in-Parts.access c.in-Parts.volume c.in-Parts.block c.in-Parts.count c.in-Parts.next c.in-Parts.last in
    next_as c.args.store.now c.args.self.now _ script script (Some (Part c.in-Parts.access c.in-Parts.volume c.in-Parts.block c.in-Parts.count c.in-Parts.next)) c.in-Parts.is refl
    (parts_next c.args.store.now c.in-Parts.access c.in-Parts.volume c.in-Parts.block c.in-Parts.count c.in-Parts.next c.in-Parts.last
    (subst (λ (x : Script). Fits c.args.store.now.control.grain c.args.store.now.control.tables x) c.in-Parts.is c.requires.fits))

pub returns-in-Ok-Some : goal.returns-in-Ok-Some
returns-in-Ok-Some g c =
    subst (λ (x : Script). IsNextOf c.args.store.now x (Passes c.pass.new.self) c.ask_fill.result) (sym c.in-Seconds.is)
    (seconds_next c.args.store.now c.in-Seconds.passage c.pass.new.self c.in-Ok-Some.grain c.ask_fill.result c.requires.stands c.in-Ok-Some.ensures.passed
    (λ w stands. subst (λ (o : Option GrainNo). PassesUpTo c.args.store.now.control.grain w o c.pass.new.self) c.in-Ok-Some.field-0-is (c.in-Ok-Some.ensures.upto w stands)) c.ask_fill.ensures)

pub returns-in-Ok-None : goal.returns-in-Ok-None
returns-in-Ok-None g c =
    subst (λ (x : Script). IsNextOf c.args.store.now x Over None) (sym c.in-Seconds.is)
    (seconds_over c.args.store.now c.in-Seconds.passage c.pass.new.self c.in-Ok-None.ensures.passed
    (λ w stands. subst (λ (o : Option GrainNo). PassesUpTo c.args.store.now.control.grain w o c.pass.new.self) c.in-Ok-None.field-0-is (c.in-Ok-None.ensures.upto w stands)))

pub ask_command-requires-in-Some-clause-itself : goal.ask_command-requires-in-Some-clause-itself
ask_command-requires-in-Some-clause-itself g c =
    first_asks_itself c.args.store.now c.in-Lines.commands c.in-Lines.behind c.in-Some.command.now (omega (arith, c.in-Some.ensures.variant.0 refl)) c.in-Some.ensures.lookup
    (subst (λ (x : Script). Fits c.args.store.now.control.grain c.args.store.now.control.tables x) c.in-Lines.is c.requires.fits)

pub returns-in_ok-ask_command-in-Some : goal.returns-in_ok-ask_command-in-Some
returns-in_ok-ask_command-in-Some g c =
    subst (λ (x : Script). IsNextOf c.args.store.now x (Lines c.in-Lines.commands c.in-Lines.behind) (Some c.in_ok-ask_command-in-Some.field-0)) (sym c.in-Lines.is)
    (lines_next c.args.store.now c.in-Lines.commands c.in-Lines.behind c.in-Some.command.now (omega (arith, c.in-Some.ensures.variant.0 refl)) c.in-Some.ensures.lookup
    (subst (λ (x : Script). Fits c.args.store.now.control.grain c.args.store.now.control.tables x) c.in-Lines.is c.requires.fits)
    c.in_ok-ask_command-in-Some.field-0 c.in_ok-ask_command-in-Some.ensures.request c.in_ok-ask_command-in-Some.ensures.can c.in_ok-ask_command-in-Some.ensures.no_fill)

pub returns-in-None : goal.returns-in-None
returns-in-None g c =
    subst (λ (x : Script). IsNextOf c.args.store.now x Over None) (sym c.in-Lines.is)
    (no_lines_next c.args.store.now c.in-Lines.commands c.in-Lines.behind (λ some. absurd (cc (c.in-None.ensures.variant.1 (omega (arith, some))))))
