-- Its seconds, or other lines of a preset.
use Rattle.std.proofs.Common.{[], Bool, cond, IfOk, sym, subst}
use Rattle.fc_base.specs.declared.behind.Behind.{Behind}
use Rattle.fc_legal.specs.Agenda.{Seconds, Session, behind_last}
use Rattle.fc_legal.specs.Seconds.{all_work, seconds_begun}
use Rattle.fc_legal.specs.Whole.{Whole}
use Rattle.fc_script.specs.Passage.{GoesOn}
use Rattle.fc_script.specs.Script.{agenda_of}
use Rattle.fc_script.specs.declared.script.Script.{Script}
use Rattle.fc_stands.specs.Store.{StandsFor}
use Rattle.fc_script.proofs.Presets.{asks_on}
use Rattle.fc_script.proofs.script.behind_last.Goals as goal

pub returns-in-Passing-clause-goes : goal.returns-in-Passing-clause-goes
returns-in-Passing-clause-goes g c =
    subst (λ (b : Behind). IfOk c.behind_command.result (λ (script : Script). (w : Whole) → StandsFor c.args.store.now w →
    GoesOn c.args.store.now.control.grain w (behind_last w c.args.entry.now.reply b []) (agenda_of c.args.store.now.control.grain script))) (sym c.in-Passing.is)
    (subst (λ (done : Bool). IfOk c.behind_command.result (λ (script : Script). (w : Whole) → StandsFor c.args.store.now w →
    GoesOn c.args.store.now.control.grain w (cond done (Seconds (seconds_begun c.in-Passing.seconds (all_work w.books)) []) (Session [])) (agenda_of c.args.store.now.control.grain script)))
    c.is_done.ensures c.behind_command.ensures.goes)

pub returns-in_default : goal.returns-in_default
returns-in_default g c = record {
  goes = asks_on c.args.store.now c.args.behind c.args.entry.now.reply c.lines_behind.result c.in_default.not-Passing c.lines_behind.ensures.agenda;
  fits = c.lines_behind.ensures.fits;
}
