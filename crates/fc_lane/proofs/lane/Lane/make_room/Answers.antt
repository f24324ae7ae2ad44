use Rattle.std.proofs.Common.{rules, ◌<◌, ◌≤◌, ◌^◌, ℕ, subst}
use Rattle.std.proofs.lemmas.Result.{on_ok_weaker}
use Rattle.fc_steps.specs.Plans.{room_of}
use Rattle.fc_lane.proofs.lane.Lane.make_room.Goals as goal

pub returns-in-Ok-clause-ok : goal.returns-in-Ok-clause-ok
returns-in-Ok-clause-ok g c =
    let below : c.volumes-volumes.result < 2 ^ 30 = search rules in
    on_ok_weaker c.widen_spare.result
    (λ enough. record {
      few = subst (λ (n : ℕ). n < 2 ^ 30) c.volumes-volumes.ensures below;
      plan = subst (λ (n : ℕ). n ≤ c.widen.new.plan.room) c.volumes-volumes.ensures c.in-Ok.ensures.ok;
      entry = subst (λ (n : ℕ). n ≤ room_of c.widen_spare.new.spare) c.volumes-volumes.ensures enough;
    })
    c.widen_spare.ensures.ok
