use Rattle.std.proofs.Common.{ap, refl, sym, ◌∙◌}
use Rattle.fc_base.specs.declared.request.Reply.TheVariants.{Offline, NotAccessible}
use Rattle.fc_lane.specs.Lane.{LaneView}
use Rattle.fc_lane.proofs.InSteps.{answered_at_once}
use Rattle.fc_lane.proofs.WriteLane.{barred_entered, offline_entered}
use Rattle.fc_lane.proofs.lane.Lane.begin_write.Goals as goal
use Rattle.fc_rules.specs.LaneTold.{lane_access}
use Rattle.fc_steps.specs.declared.ask.Ask.TheVariants.{Write}

pub returns-in-Offline : goal.returns-in-Offline
returns-in-Offline g c =
    let v : LaneView = c.args.self.now in
    let access = ap (λ (z : LaneView). lane_access z.accesses.volumes c.args.part.volume) (sym c.self.view_is) ∙ (sym c.access.ensures ∙ c.in-Offline.is) in
    answered_at_once v (Write c.args.part) c.args.number c.args.actor (Offline c.in-Offline.map c.in-Offline.state) c.untouched.result
    (offline_entered v c.args.part c.args.number c.args.actor c.in-Offline.map c.in-Offline.state c.untouched.result access c.untouched.ensures) refl c.untouched.ensures

pub returns-in-NotAccessible : goal.returns-in-NotAccessible
returns-in-NotAccessible g c =
    let v : LaneView = c.args.self.now in
    let access = ap (λ (z : LaneView). lane_access z.accesses.volumes c.args.part.volume) (sym c.self.view_is) ∙ (sym c.access.ensures ∙ c.in-NotAccessible.is) in
    answered_at_once v (Write c.args.part) c.args.number c.args.actor (NotAccessible c.in-NotAccessible.map) c.untouched-in-NotAccessible.result
    (barred_entered v c.args.part c.args.number c.args.actor c.in-NotAccessible.map c.untouched-in-NotAccessible.result access c.untouched-in-NotAccessible.ensures) refl c.untouched-in-NotAccessible.ensures
