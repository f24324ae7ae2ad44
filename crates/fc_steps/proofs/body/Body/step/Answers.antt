use Rattle.std.proofs.Common.{sym, ap, subst, ◌∙◌}
use Rattle.fc_base.specs.declared.request.Move.{Move}
use Rattle.fc_base.specs.declared.request.WritePart.{WritePart}
use Rattle.fc_grains.specs.Volumes.{stored}
use Rattle.fc_steps.specs.UnderWay.{AreUnderWay, MoveStored, OwnStored}
use Rattle.fc_steps.specs.declared.stepping.Steps.{Steps}
use Rattle.fc_steps.proofs.UnderWay.{move_comes, own_comes, move_from, part_from, move_stored, way_can, way_moved, way_own, way_sized, way_sound, way_wrote}
use Rattle.fc_steps.proofs.body.Body.step.Goals as goal

pub make_move-end-requires-clause-sound : goal.make_move-end-requires-clause-sound
make_move-end-requires-clause-sound g c =
    let w = c.requires.way in
    let s = c.args.steps.now in
    let comes = move_comes s.stop s.written s.made s.planned.moves s.ask c.in-Move.mv (sym c.next.ensures ∙ c.in-Move.is) in
    way_sound w.0 w.1 w.2 w.3 w.4 s c.args.self.now.cascade c.args.self.now.grains w.5 c.in-Move.mv comes

pub make_move-end-requires-clause-sized : goal.make_move-end-requires-clause-sized
make_move-end-requires-clause-sized g c =
    let w = c.requires.way in
    let s = c.args.steps.now in
    let comes = move_comes s.stop s.written s.made s.planned.moves s.ask c.in-Move.mv (sym c.next.ensures ∙ c.in-Move.is) in
    way_sized w.0 w.1 w.2 w.3 w.4 s c.args.self.now.cascade c.args.self.now.grains w.5 c.in-Move.mv comes

pub make_move-end-requires-clause-can : goal.make_move-end-requires-clause-can
make_move-end-requires-clause-can g c =
    let w = c.requires.way in
    let s = c.args.steps.now in
    let comes = move_comes s.stop s.written s.made s.planned.moves s.ask c.in-Move.mv (sym c.next.ensures ∙ c.in-Move.is) in
    way_can w.0 w.1 w.2 w.3 w.4 s c.args.self.now.cascade c.args.self.now.grains w.5 c.in-Move.mv comes

pub returns-in-Move-clause-way : goal.returns-in-Move-clause-way
returns-in-Move-clause-way g c l told x chains grains u =
    let s = c.args.steps.now in
    let end = c.make_move-end in
    let comes = move_comes s.stop s.written s.made s.planned.moves s.ask c.in-Move.mv (sym c.next.ensures ∙ c.in-Move.is) in
    subst (λ (z : Steps). AreUnderWay l told x chains grains z end.new.self.cascade end.new.self.grains) (sym c.moved.ensures)
    (way_moved l told x chains grains s c.args.self.now.cascade c.args.self.now.grains u c.in-Move.mv comes end.result.calls end.result.stop end.new.self.cascade end.new.self.grains end.ensures.ends end.ensures.same)

pub returns-in-Move-clause-moved : goal.returns-in-Move-clause-moved
returns-in-Move-clause-moved g c m e =
    let w = c.requires.way in
    let s = c.args.steps.now in
    let end = c.make_move-end in
    let is = sym c.next.ensures ∙ c.in-Move.is in
    let comes = move_comes s.stop s.written s.made s.planned.moves s.ask c.in-Move.mv is in
    let can = way_can w.0 w.1 w.2 w.3 w.4 s c.args.self.now.cascade c.args.self.now.grains w.5 c.in-Move.mv comes in
    subst (λ (z : Move). MoveStored c.args.self.now.cascade.sheet.slots s.place z end.result (stored c.args.self.now.grains.volumes) (stored end.new.self.grains.volumes)) (ap (move_from m) (sym is ∙ e))
    (move_stored c.args.self.now.cascade end.new.self.cascade c.args.self.now.grains end.new.self.grains s.place can.0 c.in-Move.mv end.result
    (way_sound w.0 w.1 w.2 w.3 w.4 s c.args.self.now.cascade c.args.self.now.grains w.5 c.in-Move.mv comes)
    (way_sized w.0 w.1 w.2 w.3 w.4 s c.args.self.now.cascade c.args.self.now.grains w.5 c.in-Move.mv comes) can.1 (end.ensures.ends can.0 can.1))

pub write_own-end-requires : goal.write_own-end-requires
write_own-end-requires g c =
    let w = c.requires.way in
    let s = c.args.steps.now in
    let comes = own_comes s.stop s.written s.made s.planned.moves s.ask c.in-Own.part (sym c.next.ensures ∙ c.in-Own.is) in
    let own = way_own w.0 w.1 w.2 w.3 w.4 s c.args.self.now.cascade c.args.self.now.grains w.5 c.in-Own.part comes in
    record { can = (w.0, w.1, w.2, own.0, own.1, own.2) }

pub returns-in-Own-clause-way : goal.returns-in-Own-clause-way
returns-in-Own-clause-way g c l told x chains grains u =
    let s = c.args.steps.now in
    let end = c.write_own-end in
    let comes = own_comes s.stop s.written s.made s.planned.moves s.ask c.in-Own.part (sym c.next.ensures ∙ c.in-Own.is) in
    let own = way_own l told x chains grains s c.args.self.now.cascade c.args.self.now.grains u c.in-Own.part comes in
    subst (λ (z : Steps). AreUnderWay l told x chains grains z end.new.self.cascade end.new.self.grains) (sym c.wrote.ensures)
    (way_wrote l told x chains grains s c.args.self.now.cascade c.args.self.now.grains u c.in-Own.part comes end.result.calls end.result.stop end.new.self.cascade end.new.self.grains (end.ensures.ends l told x own.0 own.1 own.2))

pub returns-in-Own-clause-wrote : goal.returns-in-Own-clause-wrote
returns-in-Own-clause-wrote g c part e l told x chains grains u =
    let s = c.args.steps.now in
    let end = c.write_own-end in
    let is = sym c.next.ensures ∙ c.in-Own.is in
    let comes = own_comes s.stop s.written s.made s.planned.moves s.ask c.in-Own.part is in
    let own = way_own l told x chains grains s c.args.self.now.cascade c.args.self.now.grains u c.in-Own.part comes in
    subst (λ (z : WritePart). OwnStored l told z end.result.stop (stored c.args.self.now.grains.volumes) (stored end.new.self.grains.volumes)) (ap (part_from part) (sym is ∙ e))
    (end.ensures.stored l told x own.0 own.1 own.2)
