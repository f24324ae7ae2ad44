-- A command that is no access and no preset asks for itself, and where it is done its seconds pass.
use Rattle.std.proofs.Common.{ℕ, Bool, [], ◌∷◌, List, Ok, Err, subst, sym}
use Rattle.fc_base.specs.declared.behind.Behind.{Behind}
use Rattle.fc_base.specs.declared.request.Request.{Request}
use Rattle.fc_base.specs.declared.request.Request.TheVariants.{Command as Asked}
use Rattle.fc_base.specs.declared.size.GrainSize.{GrainSize}
use Rattle.fc_legal.specs.Added.{Answered, IsTold}
use Rattle.fc_legal.specs.Agenda.{Session, Own, Seconds, behind_command, session_rules}
use Rattle.fc_legal.specs.Seconds.{all_work, seconds_begun}
use Rattle.fc_legal.specs.Whole.{Whole}
use Rattle.fc_stands.specs.Logged.{Brought, whether_done}
use Rattle.fc_stands.specs.Store.{StandsFor}
use Rattle.fc_stands.proofs.Asked.{asks_itself}
use Rattle.fc_stands.proofs.Lining.{command_done, command_undone, own_stopped}
use Rattle.fc_store.proofs.store.Store.run_other.Goals as goal

pub advance-requires-clause-stands : goal.advance-requires-clause-stands
advance-requires-clause-stands g c =
    let logged = c.in-Ok-true.ensures.answered c.requires.stands.0 c.requires.stands.1 in
    (logged.next, logged.told)

pub returns-in-Ok-true-clause-answered : goal.returns-in-Ok-true-clause-answered
returns-in-Ok-true-clause-answered g c = λ read w told.
    let grain : GrainSize = c.args.self.now.control.grain in
    let n : ℕ = c.seconds_of-seconds.result in
    let P : List Request → Type 0 = λ rs. Answered c.advance.result (StandsFor c.advance.new.self) (session_rules grain read) (Own rs (behind_command w.books c.args.command) []) w c.args.history.now c.advance.new.history in
    let B : Behind → Type 0 = λ behind. Answered c.advance.result (StandsFor c.advance.new.self) (session_rules grain read) (Own (Asked c.args.command ∷ []) behind []) w c.args.history.now c.advance.new.history in
    let Q : GrainSize → Type 0 = λ s. (next : Whole) → IsTold (StandsFor c.run_command.new.self) c.run_command.new.history next →
    Brought c.advance.result (StandsFor c.advance.new.self) (session_rules s read) (Seconds (seconds_begun n (all_work next.books)) []) (Session []) next c.run_command.new.history c.advance.new.history in
    subst P (sym (asks_itself grain w.books c.args.command c.requires.decided))
    (subst B (sym (c.seconds_of-seconds.ensures w.books))
    (command_done (StandsFor c.run_command.new.self) grain read w (Asked c.args.command) n c.args.history.now c.run_command.new.history
    c.advance.result (StandsFor c.advance.new.self) c.advance.new.history c.in-Ok-true.field-0 c.in-Ok-true.field-0-test (c.in-Ok-true.ensures.answered w told)
    (subst Q c.run_command.ensures.grain (λ next. c.advance.ensures.passed read next))))

pub returns-in-Ok-false-clause-answered : goal.returns-in-Ok-false-clause-answered
returns-in-Ok-false-clause-answered g c = λ read w told.
    let grain : GrainSize = c.args.self.now.control.grain in
    let n : ℕ = c.seconds_of-seconds.result in
    let P : List Request → Type 0 = λ rs. Answered {A = Unit {0}} (Ok tt) (StandsFor c.run_command.new.self) (session_rules grain read) (Own rs (behind_command w.books c.args.command) []) w c.args.history.now c.run_command.new.history in
    let B : Behind → Type 0 = λ behind. Answered {A = Unit {0}} (Ok tt) (StandsFor c.run_command.new.self) (session_rules grain read) (Own (Asked c.args.command ∷ []) behind []) w c.args.history.now c.run_command.new.history in
    subst P (sym (asks_itself grain w.books c.args.command c.requires.decided))
    (subst B (sym (c.seconds_of-seconds.ensures w.books))
    (command_undone (StandsFor c.run_command.new.self) grain read w (Asked c.args.command) n c.args.history.now c.run_command.new.history
    c.in-Ok-false.field-0 c.in-Ok-false.field-0-test (c.in-Ok-false.ensures.answered w told)))

pub returns-in-Err-clause-answered : goal.returns-in-Err-clause-answered
returns-in-Err-clause-answered g c = λ read w told.
    let grain : GrainSize = c.args.self.now.control.grain in
    let P : List Request → Type 0 = λ rs. Answered {A = Unit {0}} (Err c.in-Err.stop) (StandsFor c.run_command.new.self) (session_rules grain read) (Own rs (behind_command w.books c.args.command) []) w c.args.history.now c.run_command.new.history in
    subst P (sym (asks_itself grain w.books c.args.command c.requires.decided))
    (own_stopped Bool c.in-Err.stop whether_done (StandsFor c.run_command.new.self) grain read w (Asked c.args.command) [] (behind_command w.books c.args.command)
    c.args.history.now c.run_command.new.history told.1 (c.in-Err.ensures.answered w told))
