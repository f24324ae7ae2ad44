use Rattle.fc_stands.proofs.CommandPhases.{decision_can, decision_done}
use Rattle.fc_stands.proofs.Arms.{decided_armed}
use Rattle.fc_stands.proofs.Frames.{all_stay, all_stay_armed, all_stay_quiet}
use Rattle.fc_stands.proofs.PhaseAll.{lanes_through}
use Rattle.fc_stands.proofs.Quieting.{decided_quiet}
use Rattle.fc_store.proofs.store.Store.decide_all.Goals as goal

pub reserve_all-requires : goal.reserve_all-requires
reserve_all-requires g c = record { can = decision_can c.args.self.now c.args.command.now c.in-Ok.decision c.requires.stands c.in-Ok.ensures }

pub returns-clause-decides : goal.returns-clause-decides
returns-clause-decides g c =
    decision_done c.args.self.now c.reserve_all.new.self c.apply_all.new.self c.args.command.now c.in-Ok.decision c.told.result.0 c.args.settled.now c.told.result.1 c.in-Ok.ensures
    c.reserve_all.ensures.reserved c.apply_all.ensures.done c.told.ensures.reply (c.told.ensures.effects c.args.settled.now c.in-Ok-join.ensures)

pub returns-clause-quiet : goal.returns-clause-quiet
returns-clause-quiet g c =
    decided_quiet c.args.self.now c.reserve_all.new.self c.apply_all.new.self c.args.command.now c.in-Ok.decision c.told.result.0 c.requires.stands c.in-Ok.ensures
    c.reserve_all.ensures.reserved c.apply_all.ensures.done c.told.ensures.reply

pub returns-clause-lanes : goal.returns-clause-lanes
returns-clause-lanes g c = lanes_through c.reserve_all.ensures.reserved c.apply_all.ensures.done

pub returns-in-Err-clause-lanes : goal.returns-in-Err-clause-lanes
returns-in-Err-clause-lanes g c = all_stay c.args.self.now.lanes

pub returns-in-Err-clause-quiet : goal.returns-in-Err-clause-quiet
returns-in-Err-clause-quiet g c = λ unarmed. all_stay_quiet c.args.self.now.lanes

pub returns-clause-armed : goal.returns-clause-armed
returns-clause-armed g c =
    decided_armed c.args.self.now c.reserve_all.new.self c.apply_all.new.self c.args.command.now c.in-Ok.decision c.told.result.0 c.requires.stands c.in-Ok.ensures
    c.reserve_all.ensures.reserved c.apply_all.ensures.done c.told.ensures.reply

pub returns-in-Err-clause-starved : goal.returns-in-Err-clause-starved
returns-in-Err-clause-starved g c = all_stay_armed c.args.self.now.lanes
