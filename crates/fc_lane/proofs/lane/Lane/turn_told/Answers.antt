use Rattle.std.proofs.Common.{sym, subst}
use Rattle.fc_base.specs.declared.request.Pick.{Pick}
use Rattle.fc_lane.specs.Entering.{HasEntered}
use Rattle.fc_lane.specs.Lane.{of}
use Rattle.fc_lane.specs.Turns.{CanPick}
use Rattle.fc_lane.specs.Workers.{filled_slot, pick_of}
use Rattle.fc_lane.proofs.Turns.{named_entered}
use Rattle.fc_lane.proofs.lane.Lane.turn_told.Goals as goal

pub returns-in-Grain : goal.returns-in-Grain
returns-in-Grain g c =
    subst (λ (p : Pick). HasEntered c.args.self.now (λ told. CanPick (of c.args.self.now) (filled_slot c.args.worker told.sheet.slots) p) c.args.number c.args.actor (pick_of c.args.worker c.args.self.now.lane p) c.fill_told.result c.fill_told.new.self)
    (sym c.in-Grain.is)
    (named_entered c.args.worker c.args.self.now c.fill_told.new.self c.args.number c.args.actor c.in-Grain.map c.in-Grain.grain c.fill_told.result c.fill_told.ensures)
