-- A line is answered as it was read.
use Rattle.std.proofs.Common.{◌≡◌, ◌⊎◌, inl, inr, ◌∷◌, [], Ok, refl, ap, ◌∙◌}
use Rattle.fc_base.specs.declared.behind.Behind.TheVariants.{Passing as PassingSeconds}
use Rattle.fc_base.specs.declared.command.Line.{Line}
use Rattle.fc_base.specs.declared.command.Line.TheVariants.{Actor, Blank, Command as CommandLine, End, Together}
use Rattle.fc_base.specs.declared.command.Role.{Role}
use Rattle.fc_base.specs.declared.name.Name.{Name}
use Rattle.fc_base.specs.declared.size.GrainSize.{GrainSize}
use Rattle.fc_base.specs.declared.fault.WordFault.TheVariants.{UnknownCommand}
use Rattle.fc_base.specs.declared.request.Request.TheVariants.{Unread}
use Rattle.fc_legal.specs.Agenda.{Own, behind_command, line_read}
use Rattle.fc_legal.specs.Asked.{command_asked}
use Rattle.fc_legal.specs.Whole.{Whole}
use Rattle.fc_stands.specs.Store.{StandsFor}
use Rattle.fc_stands.proofs.Bringing.{brought_all}
use Rattle.fc_stands.proofs.Lining.{alone_answered, line_answered, own_begins}
use Rattle.fc_store.proofs.store.Store.run_line.Goals as goal

-- A line that belongs to a block of actors is read as an unknown command.
unknown : (grain : GrainSize) (w : Whole) (line : Line) → (line ≡ Together) ⊎ (((name : Name) × (role : Role) × (line ≡ Actor name role)) ⊎ (line ≡ End)) →
    line_read grain w (Ok line) [] ≡ Own (Unread UnknownCommand ∷ []) (PassingSeconds 0) []
unknown grain w line (inl is) = ap (λ (l : Line). line_read grain w (Ok l) []) is
unknown grain w line (inr (inl is)) = ap (λ (l : Line). line_read grain w (Ok l) []) is.2
unknown grain w line (inr (inr is)) = ap (λ (l : Line). line_read grain w (Ok l) []) is

pub returns-in-Blank-clause-answered : goal.returns-in-Blank-clause-answered
returns-in-Blank-clause-answered g c = λ read bytes w is told.
    line_answered (Ok tt) (StandsFor c.args.self.now) c.args.self.now.control.grain read w bytes (Ok Blank) [] (PassingSeconds 0) c.args.history.now c.args.history.now (is ∙ ap Ok c.in-Blank.is) refl
    (brought_all (Unit {0}) (Ok tt) (StandsFor c.args.self.now) c.args.self.now.control.grain read w (Own [] (PassingSeconds 0) []) c.args.history.now c.args.history.now
    (own_begins (StandsFor c.args.self.now) c.args.self.now.control.grain read w [] c.args.history.now told))

pub returns-in-Command-clause-answered : goal.returns-in-Command-clause-answered
returns-in-Command-clause-answered g c = λ read bytes w is told.
    line_answered c.run_any.result (StandsFor c.run_any.new.self) c.args.self.now.control.grain read w bytes (Ok (CommandLine c.in-Command.command))
    (command_asked c.args.self.now.control.grain w.books c.in-Command.command) (behind_command w.books c.in-Command.command) c.args.history.now c.run_any.new.history
    (is ∙ ap Ok c.in-Command.is) refl (c.run_any.ensures.answered read w told)

pub returns-clause-answered : goal.returns-clause-answered
returns-clause-answered g c = λ read bytes w is told.
    line_answered c.log_unread.result (StandsFor c.args.self.now) c.args.self.now.control.grain read w bytes (Ok c.args.line) (Unread UnknownCommand ∷ []) (PassingSeconds 0)
    c.args.history.now c.log_unread.new.history is (unknown c.args.self.now.control.grain w c.args.line c.in-Together.is)
    (alone_answered c.log_unread.result (StandsFor c.args.self.now) c.args.self.now.control.grain read w (Unread UnknownCommand) c.args.history.now c.log_unread.new.history told.1
    (c.log_unread.ensures.answered w told))
