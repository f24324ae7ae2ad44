use Rattle.fc_lane_sheet.specs.LaneSheet.{sheet_of}
use Rattle.fc_lane_sheet.proofs.Dependents.{reached_skip, asked_one}
use Rattle.std.proofs.Common.{arith, ◌≡◌, ◌≤◌, ◌<◌, List, length, slice_index_or, subst}
use Rattle.fc_base.specs.declared.ids.MapId.{MapId}
use Rattle.fc_lane_sheet.proofs.sheet.ask_one.Goals as goal

pub returns-then-turn-len : goal.returns-then-turn-len
returns-then-turn-len g c =
    reached_skip (sheet_of c.args.lanes.now) c.args.map c.args.turn c.args.reached.now c.requires.reached
    (let past : length c.args.reached.now ≤ c.args.turn = omega (arith, c.len.ensures, c.if-turn-len.true) in past)

pub returns : goal.returns
returns g c =
    let P : List MapId → Type 0 = λ z. slice_index_or z c.args.turn c.map_at-from.result ≡ c.map_at-from.result in
    let below : c.args.turn < length c.args.reached.now = omega (arith, c.len.ensures, c.if-turn-len.false) in
    asked_one (sheet_of c.args.lanes.now) c.args.map c.map_at-from.result c.args.turn c.args.reached.now c.add_more.new.reached c.add_more.result c.requires.reached
    below (subst P c.as_slice.ensures c.map_at-from.ensures) c.add_more.ensures
