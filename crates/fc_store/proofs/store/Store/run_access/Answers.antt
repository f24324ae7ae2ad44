-- An access that isn't refused asks for its grains, and a refused one for itself.
use Rattle.std.proofs.Common.{◌≡◌, ◌∷◌, [], List, map, Some, subst, sym}
use Rattle.fc_base.specs.Tables.{Tables, refers_to, volume_named}
use Rattle.fc_base.specs.declared.behind.Behind.TheVariants.{Passing as PassingSeconds}
use Rattle.fc_base.specs.declared.command.Command.{Command}
use Rattle.fc_base.specs.declared.ids.VolId.{VolId}
use Rattle.fc_base.specs.declared.request.Request.{Request}
use Rattle.fc_base.specs.declared.request.Request.TheVariants.{Command as Asked}
use Rattle.fc_base.specs.declared.volume.Volume.{Volume}
use Rattle.fc_decided.proofs.Lists.{find_from}
use Rattle.fc_legal.specs.Asked.{touched}
use Rattle.fc_legal.specs.Added.{Answered}
use Rattle.fc_legal.specs.Agenda.{Own, session_rules}
use Rattle.fc_legal.specs.Whole.{Whole}
use Rattle.fc_lanes.specs.Asking.{part_of}
use Rattle.fc_stands.specs.Store.{StandsFor}
use Rattle.fc_stands.proofs.Lining.{alone_answered}
use Rattle.fc_stands.proofs.Asked.{asked-refused, is_taken}
use Rattle.fc_store.proofs.store.Store.run_access.Goals as goal

pub run_parts-requires-clause-there : goal.run_parts-requires-clause-there
run_parts-requires-clause-there g c =
    let v : Volume = c.in-Ok.ensures.taken.0 in
    let w : Whole = c.requires.stands.0 in
    let stands : StandsFor c.args.self.now w = c.requires.stands.1.0 in
    let found : volume_named w.books.tables c.args.volume ≡ Some v = subst (λ (t : Tables). volume_named t c.args.volume ≡ Some v) stands.control.tables c.in-Ok.ensures.taken.1 in
    let taken = is_taken c.args.self.now.control.grain w.books c.args.access c.args.volume c.args.block c.args.count v found c.in-Ok.ensures.taken.3 in (
      v,
      (find_from (λ (x : Volume). refers_to c.args.volume x.id.0 x.name) c.args.self.now.control.tables.volumes v c.in-Ok.ensures.taken.1).0,
      c.in-Ok.ensures.taken.2,
      taken.there,
    )

pub returns-in-Ok-clause-answered : goal.returns-in-Ok-clause-answered
returns-in-Ok-clause-answered g c = λ read w told.
    let v : Volume = c.in-Ok.ensures.taken.0 in
    let stands : StandsFor c.args.self.now w = told.0 in
    let found : volume_named w.books.tables c.args.volume ≡ Some v = subst (λ (t : Tables). volume_named t c.args.volume ≡ Some v) stands.control.tables c.in-Ok.ensures.taken.1 in
    let taken = is_taken c.args.self.now.control.grain w.books c.args.access c.args.volume c.args.block c.args.count v found c.in-Ok.ensures.taken.3 in
    let P : List Request → Type 0 = λ rs. Answered c.run_parts.result (StandsFor c.run_parts.new.self) (session_rules c.args.self.now.control.grain read) (Own rs (PassingSeconds 0) []) w c.args.history.now c.run_parts.new.history in
    let Q : VolId → Type 0 = λ id. P (map (part_of c.args.self.now.control.grain c.args.access id c.args.block c.args.count) (touched c.args.self.now.control.grain c.args.block c.args.count)) in
    subst P (sym taken.asked) (subst Q (sym c.in-Ok.ensures.taken.2) (c.run_parts.ensures.answered read w told))

pub returns-in-Err-clause-answered : goal.returns-in-Err-clause-answered
returns-in-Err-clause-answered g c = λ read w told.
    let stands : StandsFor c.args.self.now w = told.0 in
    let P : List Request → Type 0 = λ rs. Answered c.log_refused.result (StandsFor c.args.self.now) (session_rules c.args.self.now.control.grain read) (Own rs (PassingSeconds 0) []) w c.args.history.now c.log_refused.new.history in
    let Q : Command → Type 0 = λ asked. P (Asked asked ∷ []) in
    subst P (sym (asked-refused c.args.self.now.control.grain w.books c.args.access c.args.volume c.args.block c.args.count c.in-Err.refusal
    (c.in-Err.ensures.refused w.books (sym stands.control.tables))))
    (subst Q c.command.ensures
    (alone_answered c.log_refused.result (StandsFor c.args.self.now) c.args.self.now.control.grain read w (Asked c.command.result) c.args.history.now c.log_refused.new.history told.1
    (c.log_refused.ensures.answered w told)))
