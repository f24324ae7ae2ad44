-- The least grain of the lanes is the least of all.
use Rattle.std.proofs.Common.{ap, subst, sym, ◌∙◌}
use Rattle.fc_stands.specs.Store.{StoreView}
use Rattle.fc_lanes.specs.Working.{AllStand, least_of}
use Rattle.fc_stands.proofs.Working.{all_stand, least_is_next}
use Rattle.fc_store.proofs.store.Store.next_grain.Goals as goal

pub least_of-requires : goal.least_of-requires
least_of-requires g c =
    subst AllStand (ap (λ (s : StoreView). s.lanes) (sym c.self.view_is) ∙ sym c.deref.ensures.value) (all_stand c.args.self.now c.requires.0 c.requires.1)

pub returns : goal.returns
returns g c = λ w stands.
    c.least_of.ensures
    ∙ (ap (least_of c.args.work.now) (c.deref.ensures.value ∙ ap (λ (s : StoreView). s.lanes) c.self.view_is)
    ∙ least_is_next c.args.self.now w c.args.work.now stands)
