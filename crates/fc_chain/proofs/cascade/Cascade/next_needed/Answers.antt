use Rattle.std.proofs.Common.{ap}
use Rattle.fc_chain.specs.Chains.{Chains}
use Rattle.fc_chain.proofs.Numbered.{number_fits}
use Rattle.fc_chain.proofs.cascade.Cascade.next_needed.Goals as goal

pub number_of-requires : goal.number_of-requires
number_of-requires c =
    number_fits c.args.self.now c.self.inside.lane c.self.inside.lanes c.slots.result.now c.place_of.result c.next_needed-place.result c.slots.ensures.value c.place_of.ensures.bound
    (ap (λ (v : Chains). v.lane) c.self.view_is) (ap (λ (v : Chains). v.lanes) c.self.view_is) c.slots.ensures.numbered c.next_needed-place.ensures.bound
