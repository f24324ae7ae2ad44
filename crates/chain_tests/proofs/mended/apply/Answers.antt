use Rattle.std.proofs.Common.{◌≡◌, ℕ, ◌+◌, ◌<◌, ◌≤◌, ◌^◌, ap, arith}
use Rattle.fc_base.specs.declared.decision.LaneEvent.{LaneEvent}
use Rattle.fc_base.specs.Sheet.{Sheet}
use Rattle.fc_base.specs.SheetStep.{sheet_step}
use Rattle.fc_events.specs.LaneGrains.{lane_grains}
use Rattle.fc_events.specs.Room.{slots_made}
use Rattle.fc_events.proofs.Rising.{step_at_most}
use Rattle.chain_tests.proofs.mended.apply.Goals as goal

two_more : (local : ℕ → ℕ) (s t : Sheet) (e : LaneEvent) → t ≡ s → slots_made e ≤ 2 → (sheet_step local t e).births ≤ s.births + 2
two_more local s t e same few =
    let a : (sheet_step local t e).births ≤ t.births + slots_made e = step_at_most local e t in
    let b : t.births ≡ s.births = ap (λ (z : Sheet). z.births) same in
    omega arith

pub step-requires-clause-births : goal.step-requires-clause-births
step-requires-clause-births g c =
    let a : (sheet_step (lane_grains 0 1) c.make_room.new.self.sheet c.args.event).births ≤ c.args.table.now.sheet.births + 2 =
    two_more (lane_grains 0 1) c.args.table.now.sheet c.make_room.new.self.sheet c.args.event c.make_room.ensures.same c.requires.few in
    let b : c.args.table.now.sheet.births + 2 < 2 ^ 64 = c.requires.births in
    omega arith

pub returns : goal.returns
returns g c =
    let a : (sheet_step (lane_grains 0 1) c.make_room.new.self.sheet c.args.event).births ≤ c.args.table.now.sheet.births + 2 =
    two_more (lane_grains 0 1) c.args.table.now.sheet c.make_room.new.self.sheet c.args.event c.make_room.ensures.same c.requires.few in
    let e : c.step.new.table.sheet.births ≡ (sheet_step (lane_grains 0 1) c.make_room.new.self.sheet c.args.event).births = ap (λ (z : Sheet). z.births) c.step.ensures.sheet in
    omega arith
