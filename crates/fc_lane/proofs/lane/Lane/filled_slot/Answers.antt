use Rattle.std.proofs.Common.{◌≡◌, ◌/◌, ℕ, sym, subst, ◌∙◌, Some, IfSome}
use Rattle.fc_base.specs.Column.{needer}
use Rattle.fc_base.specs.Sheet.{birth_place, column, mapping_place}
use Rattle.fc_base.specs.declared.ids.SlotId.{SlotId}
use Rattle.fc_chain.specs.Chains.{found}
use Rattle.fc_lane.specs.Lane.{LaneView}
use Rattle.fc_lane.specs.Workers.{IsFilled}
use Rattle.fc_lane.specs.declared.worker.Worker.{Worker}
use Rattle.fc_lane.proofs.FillEntry.{cleaner_fills, copier_fills}
use Rattle.fc_lane.proofs.lane.Lane.filled_slot.Given as given
use Rattle.fc_lane.proofs.lane.Lane.filled_slot.Goals as goal
use Rattle.fc_lane.proofs.lane.Lane.filled_slot.Goals.{In-Some}

-- the slot that was found is the mapping's
slot_is : (g : given.Over) (c : In-Some g) → birth_place c.args.self.now.chains.sheet.slots c.in-Some.slot.0 ≡ mapping_place c.args.self.now.chains.sheet.slots c.args.map.0
slot_is g c =
    subst (λ (z : LaneView). birth_place z.chains.sheet.slots c.in-Some.slot.0 ≡ mapping_place z.chains.sheet.slots c.args.map.0) c.self.view_is
    (subst (λ o. IfSome o (λ (slot : SlotId). birth_place c.self.inside.body.cascade.sheet.slots slot.0 ≡ mapping_place c.self.inside.body.cascade.sheet.slots c.args.map.0)) c.in-Some.is c.slot.ensures.there)

pub returns-in-Copier : goal.returns-in-Copier
returns-in-Copier g c =
    subst (λ (w : Worker). IsFilled c.args.self.now w c.args.map c.args.grain c.in-Some.slot.0) (sym c.in-Copier.is)
    (copier_fills c.args.self.now c.args.map c.args.grain c.requires.of_lane c.in-Some.slot (slot_is g (goal.at.returns-in-Copier g c).In-Some))

pub returns-in-Some-needer : goal.returns-in-Some-needer
returns-in-Some-needer g c =
    let needs = subst (λ (z : LaneView). (x : ℕ) → birth_place z.chains.sheet.slots c.in-Some.slot.0 ≡ Some x → Some c.in-Some-needer.needer ≡ found z.chains.sheet.slots (needer (column z.chains.sheet.slots (c.args.grain.0 / z.chains.lanes)) x)) c.self.view_is
    (λ x e. sym c.in-Some-needer.is ∙ c.needer.ensures x e) in
    subst (λ (w : Worker). IsFilled c.args.self.now w c.args.map c.args.grain c.in-Some-needer.needer.0) (sym c.in-Cleaner.is)
    (cleaner_fills c.args.self.now c.args.map c.args.grain c.requires.of_lane c.in-Some.slot c.in-Some-needer.needer (slot_is g (goal.at.returns-in-Some-needer g c).In-Some) needs)
