use Rattle.std.proofs.Common.{◌∙◌, ap, ◌&&◌, not, eqb}
use Rattle.fc_chain.proofs.Places.{in_place_some, in_place_none}
use Rattle.fc_chain.proofs.plan.fills_in_place.Goals as goal

pub returns-in-Some : goal.returns-in-Some
returns-in-Some c =
    c.is_old_of.ensures ∙ (ap (λ v. not c.index-slots-holder.result.is_live && eqb c.index-slots-holder.result.volume v) c.volume-volume.ensures
    ∙ in_place_some _ _ _ c.in-Some.holder c.index-slots-place.result c.index-slots-holder.result c.requires.there c.index-slots-place.is c.in-Some.ensures.bound c.index-slots-holder.is c.in-Some.ensures.value)

pub returns-in-None : goal.returns-in-None
returns-in-None c = in_place_none _ _ _ c.in-None.ensures.value
