use Rattle.std.proofs.Common.{ap, sym, subst}
use Rattle.fc_base.specs.declared.request.Reply.{Reply}
use Rattle.fc_entry.specs.declared.entry.Entry.{Entry}
use Rattle.fc_lanes.specs.AllLanes.{EachLane}
use Rattle.fc_stands.specs.Armed.{ArmsAs}
use Rattle.fc_stands.specs.Leading.{LeadsOn}
use Rattle.fc_stands.proofs.Arms.{starved_armed, then_arms}
use Rattle.fc_stands.proofs.CommandRuns.{can_decide, can_settle, leads_unsettled, leads_whole}
use Rattle.fc_stands.proofs.Frames.{all_go_on, all_go_on_quiet}
use Rattle.fc_store.proofs.store.Store.command_entry.Goals as goal

pub settle_all-requires : goal.settle_all-requires
settle_all-requires g c = record { stands = can_settle c.args.self.now c.requires.can }

pub settled_entry-requires-clause-stands : goal.settled_entry-requires-clause-stands
settled_entry-requires-clause-stands g c = can_decide c.args.self.now c.settle_all.new.self c.in-Ok.effects c.requires.can c.settle_all.ensures.grain c.in-Ok.ensures.settles

pub returns-clause-right : goal.returns-clause-right
returns-clause-right g c =
    leads_whole c.args.self.now c.settle_all.new.self c.settled_entry.new.self c.in-Ok.effects c.settled_entry.result c.settle_all.ensures.grain c.in-Ok.ensures.settles c.settled_entry.ensures.right

pub returns-in-Err-clause-right : goal.returns-in-Err-clause-right
returns-in-Err-clause-right g c = λ w stands room.
    subst (λ (entry : Entry). LeadsOn c.args.self.now.control.grain w entry c.settle_all.new.self) (sym c.starved_entry.ensures.entry)
    (leads_unsettled c.args.self.now c.settle_all.new.self c.args.actor c.args.command c.new-none.result c.requires.decided c.new-none.ensures c.in-Err.ensures.settles w stands)

pub returns-clause-lanes : goal.returns-clause-lanes
returns-clause-lanes g c = all_go_on c.args.self.now.lanes c.settle_all.new.self.lanes c.settled_entry.new.self.lanes c.settle_all.ensures.lanes c.settled_entry.ensures.lanes

pub returns-clause-armed : goal.returns-clause-armed
returns-clause-armed g c =
    then_arms c.settled_entry.new.self.control.tables c.args.command c.settled_entry.result.reply c.args.self.now.lanes c.settle_all.new.self.lanes c.settled_entry.new.self.lanes
    c.settle_all.ensures.lanes c.settle_all.ensures.armed c.settled_entry.ensures.armed

pub returns-in-Err-clause-armed : goal.returns-in-Err-clause-armed
returns-in-Err-clause-armed g c =
    let Arms : Reply → Type 0 = λ r. EachLane (ArmsAs c.settle_all.new.self.control.tables c.args.command r) c.args.self.now.lanes c.settle_all.new.self.lanes in
    subst Arms (sym (ap (λ (entry : Entry). entry.reply) c.starved_entry.ensures.entry))
    (starved_armed c.settle_all.new.self.control.tables c.args.command c.args.self.now.lanes c.settle_all.new.self.lanes c.settle_all.ensures.armed)

pub returns-clause-quiet : goal.returns-clause-quiet
returns-clause-quiet g c = λ unarmed.
    all_go_on_quiet c.args.self.now.lanes c.settle_all.new.self.lanes c.settled_entry.new.self.lanes c.settle_all.ensures.quiet (c.settled_entry.ensures.quiet unarmed)

pub returns-in-Err-clause-quiet : goal.returns-in-Err-clause-quiet
returns-in-Err-clause-quiet g c = λ unarmed. c.settle_all.ensures.quiet
