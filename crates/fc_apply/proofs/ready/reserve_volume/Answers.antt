use Rattle.std.proofs.Common.{◌≡◌, ◌∷◌, ◌++◌, ◌∙◌, ℕ, List, [], OnOk, ap, sym, subst}
use Rattle.fc_grains.specs.Calls.{HasReadied}
use Rattle.fc_grains.specs.Grains.{NewVolume}
use Rattle.fc_steps.specs.Standing.{lane_of}
use Rattle.fc_apply.specs.Parts.{new_of}
use Rattle.fc_apply.proofs.ready.reserve_volume.Goals as goal

pub returns-in-Make-clause-ok : goal.returns-in-Make-clause-ok
returns-in-Make-clause-ok g c =
    let same : record { kind = c.in-Make.kind; grains = c.grains_of_lane.result } ∷ [] ≡ new_of (lane_of c.args.lane c.args.lanes c.args.grains.now.grain) c.args.event.now =
    ap (λ (n : ℕ). record { kind = c.in-Make.kind; grains = n } ∷ []) (c.grains_of_lane.ensures c.args.grains.now.grain)
    ∙ ap (new_of (lane_of c.args.lane c.args.lanes c.args.grains.now.grain)) (sym c.in-Make.is) in
    subst (λ (vs : List NewVolume). OnOk c.reserve.result (HasReadied c.args.grains.now (c.args.grains.now.reserved ++ vs) c.reserve.new.self)) same c.reserve.ensures.ok
