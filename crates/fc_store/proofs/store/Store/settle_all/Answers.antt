use Rattle.fc_stands.proofs.CommandPhases.{settling_can, settling_done}
use Rattle.fc_stands.proofs.Arms.{settled_armed}
use Rattle.fc_stands.proofs.Frames.{all_stay, all_stay_armed, all_stay_quiet}
use Rattle.fc_stands.proofs.PhaseAll.{lanes_through}
use Rattle.fc_stands.proofs.Quieting.{settled_quiet}
use Rattle.fc_store.proofs.store.Store.settle_all.Goals as goal

pub reserve_all-requires : goal.reserve_all-requires
reserve_all-requires g c = record { can = settling_can c.args.self.now c.in-Ok.decision c.requires.stands c.in-Ok.ensures }

pub returns-clause-settles : goal.returns-clause-settles
returns-clause-settles g c =
    settling_done c.args.self.now c.reserve_all.new.self c.apply_all.new.self c.in-Ok.decision c.effects_of.result c.effects_of.ensures c.in-Ok.ensures c.reserve_all.ensures.reserved
    c.apply_all.ensures.done

pub returns-clause-quiet : goal.returns-clause-quiet
returns-clause-quiet g c =
    settled_quiet c.args.self.now c.reserve_all.new.self c.apply_all.new.self c.in-Ok.decision c.requires.stands c.in-Ok.ensures c.reserve_all.ensures.reserved c.apply_all.ensures.done

pub returns-clause-lanes : goal.returns-clause-lanes
returns-clause-lanes g c = lanes_through c.reserve_all.ensures.reserved c.apply_all.ensures.done

pub returns-in-Err-clause-lanes : goal.returns-in-Err-clause-lanes
returns-in-Err-clause-lanes g c = all_stay c.args.self.now.lanes

pub returns-in-Err-clause-quiet : goal.returns-in-Err-clause-quiet
returns-in-Err-clause-quiet g c = all_stay_quiet c.args.self.now.lanes

pub returns-clause-armed : goal.returns-clause-armed
returns-clause-armed g c =
    settled_armed c.args.self.now c.reserve_all.new.self c.apply_all.new.self c.in-Ok.decision c.requires.stands c.in-Ok.ensures c.reserve_all.ensures.reserved c.apply_all.ensures.done

pub returns-in-Err-clause-armed : goal.returns-in-Err-clause-armed
returns-in-Err-clause-armed g c = all_stay_armed c.args.self.now.lanes
