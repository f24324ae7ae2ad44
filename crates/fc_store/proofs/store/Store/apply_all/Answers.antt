use Rattle.fc_stands.proofs.PhaseAll.{all_done}
use Rattle.fc_store.proofs.store.Store.apply_all.Goals as goal

pub returns : goal.returns
returns g c = record {
  done = all_done c.args.self.now c.apply_in_lanes.new.self c.apply_in_control.new.self c.args.decision.now c.apply_in_lanes.ensures.control c.apply_in_lanes.ensures.lanes
      c.apply_in_control.ensures.control
      c.apply_in_control.ensures.lanes;
}
