use Rattle.std.proofs.Common.{◌≡◌, refl, sym, subst, ◌∙◌, IfSome}
use Rattle.fc_base.specs.Sheet.{birth_place, mapping_place}
use Rattle.fc_base.specs.declared.ids.SlotId.{SlotId}
use Rattle.fc_steps.specs.Standing.{lane_of}
use Rattle.fc_rules.specs.LaneTurn.{copied_slot}
use Rattle.fc_steps.proofs.Turning.{lacking_is, none_is}
use Rattle.fc_steps.proofs.work.BodyGrid.lacking.Goals as goal

pub returns-in-Some : goal.returns-in-Some
returns-in-Some g c =
    let chains = c.args.self.now.cascade in
    let slot_is = subst (λ o. IfSome o (λ (slot : SlotId). birth_place chains.sheet.slots slot.0 ≡ mapping_place chains.sheet.slots c.args.map.0)) c.in-Some.is c.slot.ensures.there in
    lacking_is chains (lane_of chains.lane chains.lanes c.args.self.now.grains.grain) c.args.map.0 c.in-Some.slot c.next_lacking.result c.named.result refl refl
    (sym c.in-Some.is ∙ c.slot.ensures.value) slot_is c.next_lacking.ensures c.named.ensures

pub returns-in-None : goal.returns-in-None
returns-in-None g c =
    none_is (lane_of c.args.self.now.cascade.lane c.args.self.now.cascade.lanes c.args.self.now.grains.grain) c.args.self.now.cascade.sheet.slots (copied_slot c.args.self.now.cascade.sheet.slots c.args.map.0) c.args.map.0
    (sym c.in-None.is ∙ c.slot.ensures.value)
