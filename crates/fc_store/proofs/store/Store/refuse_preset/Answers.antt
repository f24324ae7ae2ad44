-- A preset whose source names no volume asks for itself.
use Rattle.std.proofs.Common.{◌≡◌, [], ◌∷◌, List, None, subst, sym}
use Rattle.fc_base.specs.Tables.{Tables, volume_named}
use Rattle.fc_base.specs.declared.behind.Behind.{Behind}
use Rattle.fc_base.specs.declared.command.Command.{Command}
use Rattle.fc_base.specs.declared.command.Command.TheVariants.{Mkpreset}
use Rattle.fc_base.specs.declared.request.Request.{Request}
use Rattle.fc_base.specs.declared.request.Request.TheVariants.{Command as Asked}
use Rattle.fc_base.specs.declared.size.GrainSize.{GrainSize}
use Rattle.fc_legal.specs.Added.{Answered}
use Rattle.fc_legal.specs.Agenda.{Own, behind_command, session_rules}
use Rattle.fc_stands.specs.Store.{StandsFor}
use Rattle.fc_stands.proofs.Asked.{behind_unnamed, preset_asks_itself, preset_unnamed}
use Rattle.fc_stands.proofs.Lining.{alone_answered}
use Rattle.fc_store.proofs.store.Store.refuse_preset.Goals as goal

pub log_refused-requires-clause-refused : goal.log_refused-requires-clause-refused
log_refused-requires-clause-refused g c = λ w told.
    let stands : StandsFor c.args.self.now w = told.0 in
    preset_unnamed w.books c.args.source (subst (λ (t : Tables). volume_named t c.args.source ≡ None) stands.control.tables c.requires.unnamed)

pub returns-clause-answered : goal.returns-clause-answered
returns-clause-answered g c = λ read w told.
    let grain : GrainSize = c.args.self.now.control.grain in
    let asked : Command = Mkpreset c.args.source c.args.preset c.args.name in
    let stands : StandsFor c.args.self.now w = told.0 in
    let none : volume_named w.books.tables c.args.source ≡ None = subst (λ (t : Tables). volume_named t c.args.source ≡ None) stands.control.tables c.requires.unnamed in
    let P : List Request → Type 0 = λ rs. Answered c.log_refused.result (StandsFor c.args.self.now) (session_rules grain read) (Own rs (behind_command w.books asked) []) w c.args.history.now c.log_refused.new.history in
    let B : Behind → Type 0 = λ behind. Answered c.log_refused.result (StandsFor c.args.self.now) (session_rules grain read) (Own (Asked asked ∷ []) behind []) w c.args.history.now c.log_refused.new.history in
    subst P (sym (preset_asks_itself grain w.books c.args.source c.args.preset c.args.name none))
    (subst B (sym (behind_unnamed w.books c.args.source c.args.preset c.args.name none))
    (alone_answered c.log_refused.result (StandsFor c.args.self.now) grain read w (Asked asked) c.args.history.now c.log_refused.new.history told.1
    (c.log_refused.ensures.answered w told)))
