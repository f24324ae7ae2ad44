use Rattle.std.proofs.Common.{map, sym, ◌∙◌}
use Rattle.fc_grains.specs.Parts.{grains_of}
use Rattle.fc_grains.proofs.Finding.{at_within, at_found}
use Rattle.fc_grains.proofs.Unreadable.{unreadable_is, unreadable_away}
use Rattle.fc_grains.proofs.grains.Grains.is_unreadable.Goals as goal

pub returns-in-Some : goal.returns-in-Some
returns-in-Some g c =
    let within = at_within _ _ _ c.deref.ensures.value c.in-Some.ensures.in_range in
    rw (← c.self.view_is)
    (c.is_unreadable.ensures
    ∙ sym (unreadable_is _ c.self.invariant.rising _ within _ c.index.ensures _ (at_found _ _ _ _ c.deref.ensures.value c.in-Some.ensures.found) _ c.self.invariant.whole c.args.place))

pub returns-in-None : goal.returns-in-None
returns-in-None g c = rw (← c.self.view_is, ← c.deref.ensures.value) (sym (unreadable_away (map grains_of c.deref.result.now) c.args.volume.0 c.args.place c.in-None.ensures.none))
