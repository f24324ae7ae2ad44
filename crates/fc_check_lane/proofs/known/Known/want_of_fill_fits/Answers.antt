use Rattle.fc_rules.specs.Steps.{HasNoMemory}
use Rattle.fc_check_lane.specs.Known.{spot_in}
use Rattle.fc_check_lane.proofs.Answering.{fill_fit, want_fit}
use Rattle.fc_check_lane.proofs.known.Known.want_of_fill_fits.Goals as goal

pub returns : goal.returns
returns c =
    fill_fit c.args.self.now c.args.number c.args.place (λ z. HasNoMemory (spot_in c.args.self.now c.args.number) z c.args.entry.now) _ _ _
    c.as_slice.ensures.value c.in_ok-steps.ensures (want_fit c.args.self.now _ c.args.number _ c.args.entry.now _ c.lane_volumes.ensures c.has_no_memory.ensures)
