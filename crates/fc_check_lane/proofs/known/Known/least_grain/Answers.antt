use Rattle.std.proofs.Common.{◌≡◌, ℕ, subst}
use Rattle.fc_check_lane.specs.Turns.{least_of}
use Rattle.fc_check_lane.proofs.Turning.{lane_with}
use Rattle.fc_check_lane.proofs.known.Known.least_grain.Goals as goal

pub returns : goal.returns
returns c =
    let k = c.args.self.now in
    subst (λ (n : ℕ). c.least_of.result ≡ least_of c.args.work k (lane_with c.args.lane n k.grain) c.args.map.0) c.lanes.ensures.count c.least_of.ensures
