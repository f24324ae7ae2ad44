use Rattle.std.proofs.Common.{◌≡◌, false, ap, sym, subst}
use Rattle.fc_base.specs.declared.request.Reply.{Reply}
use Rattle.fc_base.specs.declared.request.Request.TheVariants.{Command as Asked}
use Rattle.fc_entry.specs.declared.entry.Entry.{Entry}
use Rattle.fc_stands.specs.Arming.{arms}
use Rattle.fc_lanes.specs.AllLanes.{EachLane}
use Rattle.fc_stands.specs.Armed.{ArmsAs}
use Rattle.fc_stands.proofs.Arms.{starved_armed}
use Rattle.fc_stands.proofs.CommandRuns.{LeadsOnSettled, leads_decided, leads_settled}
use Rattle.fc_store.proofs.store.Store.settled_entry.Goals as goal

pub returns-clause-right : goal.returns-clause-right
returns-clause-right g c =
    subst (λ (entry : Entry). LeadsOnSettled c.args.self.now c.decide_all.new.self c.args.effects entry) (sym c.decided_entry.ensures.entry)
    (leads_decided c.args.self.now c.decide_all.new.self c.args.actor c.args.command c.in-Ok.decided.0 c.args.effects c.in-Ok.decided.1 c.requires.decided c.in-Ok.ensures.decides)

pub returns-in-Err-clause-right : goal.returns-in-Err-clause-right
returns-in-Err-clause-right g c =
    subst (λ (entry : Entry). LeadsOnSettled c.args.self.now c.decide_all.new.self c.args.effects entry) (sym c.starved_entry.ensures.entry)
    (leads_settled c.args.self.now c.decide_all.new.self c.args.actor c.args.command c.args.effects c.requires.decided c.in-Err.ensures.decides)

pub returns-clause-quiet : goal.returns-clause-quiet
returns-clause-quiet g c = λ unarmed.
    let Unarmed : Reply → Type 0 = λ r. arms (Asked c.args.command) r ≡ false in
    c.in-Ok.ensures.quiet (subst Unarmed (ap (λ (entry : Entry). entry.reply) c.decided_entry.ensures.entry) unarmed)

pub returns-in-Err-clause-quiet : goal.returns-in-Err-clause-quiet
returns-in-Err-clause-quiet g c = λ unarmed. c.in-Err.ensures.quiet tt

pub returns-clause-armed : goal.returns-clause-armed
returns-clause-armed g c =
    let Arms : Reply → Type 0 = λ r. EachLane (ArmsAs c.decide_all.new.self.control.tables c.args.command r) c.args.self.now.lanes c.decide_all.new.self.lanes in
    subst Arms (sym (ap (λ (entry : Entry). entry.reply) c.decided_entry.ensures.entry)) c.in-Ok.ensures.armed

pub returns-in-Err-clause-armed : goal.returns-in-Err-clause-armed
returns-in-Err-clause-armed g c =
    let Arms : Reply → Type 0 = λ r. EachLane (ArmsAs c.decide_all.new.self.control.tables c.args.command r) c.args.self.now.lanes c.decide_all.new.self.lanes in
    subst Arms (sym (ap (λ (entry : Entry). entry.reply) c.starved_entry.ensures.entry))
    (starved_armed c.decide_all.new.self.control.tables c.args.command c.args.self.now.lanes c.decide_all.new.self.lanes c.in-Err.ensures.starved)
