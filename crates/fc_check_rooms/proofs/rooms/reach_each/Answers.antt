use Rattle.std.proofs.Common.{◌==◌, cond, ◌∙◌, sym, ap}
use Rattle.fc_base.specs.Room.{Room, reaching}
use Rattle.fc_plain.proofs.Lists.{mapped_more}
use Rattle.fc_check_rooms.proofs.rooms.reach_each.Goals as goal

pub loop-room-preserved : goal.loop-room-preserved
loop-room-preserved c =
    let f = λ (r : Room). cond (r.volume.0 == c.args.volume.0) (reaching c.args.grain r) r in
    mapped_more f _ _ _ c.room-item.result _ c.loop-room.invariant c.loop-room-test.true c.room-item.is (c.reach.ensures ∙ ap f (sym c.room-item.is))
