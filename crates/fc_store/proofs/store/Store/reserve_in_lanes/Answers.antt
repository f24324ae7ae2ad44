use Rattle.std.proofs.Common.{◌∙◌, ap}
use Rattle.fc_stands.specs.Store.{StoreView}
use Rattle.fc_stands.proofs.PhaseStands.{fits_here}
use Rattle.fc_store.proofs.store.Store.reserve_in_lanes.Goals as goal

pub reserve_lanes-requires-clause-fit : goal.reserve_lanes-requires-clause-fit
reserve_lanes-requires-clause-fit g c =
    fits_here c.args.self.now c.args.decision.now c.as_mut_slice.result.now c.requires.decided (c.as_mut_slice.ensures.value ∙ ap (λ (s : StoreView). s.lanes) c.self.view_is)
