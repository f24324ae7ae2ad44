-- A refusal leaves one entry more.
use Rattle.std.proofs.Common.{[], arith, refl, subst, sym, ◌∙◌}
use Rattle.fc_base.specs.declared.request.Place.TheVariants.{Control}
use Rattle.fc_base.specs.declared.request.Reply.TheVariants.{Refused}
use Rattle.fc_entry.specs.declared.entry.Entry.{Entry}
use Rattle.fc_stands.specs.Apart.{entry_apart}
use Rattle.fc_stands.specs.Arming.{SetsNothing}
use Rattle.fc_stands.specs.Leading.{LeadsOn}
use Rattle.fc_stands.specs.Store.{StandsFor, StoreView}
use Rattle.fc_stands.proofs.Turns.{IsTurn, history_full, led_turn, turn_logged}
use Rattle.fc_stands.proofs.Turning.{refused_leads}
use Rattle.fc_stands.proofs.Quieting.{quiet_logged}
use Rattle.fc_stands.proofs.Since.{all_stay_by, refused_sets_nothing}
use Rattle.fc_store.proofs.store.Store.log_refused.Goals as goal

pub returns-then-is_full-clause-answered : goal.returns-then-is_full-clause-answered
returns-then-is_full-clause-answered g c = λ w told.
    history_full (StandsFor c.args.self.now) w c.args.history.now told c.requires.room (omega (arith, c.if-is_full.ensures.full))

pub returns-clause-answered : goal.returns-clause-answered
returns-clause-answered g c = λ w told.
    let made : Entry = entry_apart 0 0 Control c.args.request (Refused c.args.refusal) [] in
    let leads : LeadsOn c.args.self.now.control.grain w made c.args.self.now = refused_leads c.args.self.now w 0 c.args.request c.args.refusal told.0 (c.requires.refused w told) in
    let Turn : Entry → Type 0 = λ e. IsTurn (StandsFor c.args.self.now) c.args.self.now.control.grain w c.args.request (record e { number = c.len.result }) leads.0 in
    let turn = led_turn c.args.self.now c.args.self.now.control.grain w c.args.request c.len.result made leads (c.len.ensures ∙ sym told.1.entries)
    record { number_is = refl; actor_is = refl; request_is = refl } in
    turn_logged (StandsFor c.args.self.now) c.args.self.now.control.grain w leads.0 c.args.request c.args.history.now c.log.new.history (record c.refused_entry-entry.result { number = c.len.result })
    (subst Turn (sym c.refused_entry-entry.ensures) turn) told.1 c.log.result c.log.ensures.ok c.log.ensures.err c.log.ensures.stop

pub returns-clause-quiet : goal.returns-clause-quiet
returns-clause-quiet g c = λ quiet.
    let made : Entry = c.refused_entry-entry.result in
    let store : StoreView = c.args.self.now in
    quiet_logged c.log.result store store c.args.history.now c.log.new.history (record made { number = c.len.result }) (λ none unarmed. quiet.quiet none)
    (all_stay_by (record made { number = c.len.result }) store.control.tables.volumes store.lanes
    (subst (λ (e : Entry). SetsNothing e.request e.reply) (sym c.refused_entry-entry.ensures) (refused_sets_nothing c.args.request c.args.refusal))) quiet.armed c.log.ensures.ok c.log.ensures.stop
