use Rattle.std.proofs.Common.{subst}
use Rattle.fc_base.specs.declared.request.Request.{Request}
use Rattle.fc_lane.specs.Entering.{HasFollowed}
use Rattle.fc_lane.specs.Lane.{of}
use Rattle.fc_lane.specs.Turns.{CanPick}
use Rattle.fc_lane.proofs.Followed.{entry_followed}
use Rattle.fc_lane.proofs.Turns.{copier_asked}
use Rattle.fc_lane.proofs.lane.Lane.copy_turn.Goals as goal
use Rattle.fc_rules.specs.LaneTold.{LaneTold}
use Rattle.fc_rules.specs.LaneTurn.{copied_slot}

pub returns : goal.returns
returns g c =
    let fits : LaneTold → Type 0 = λ told. CanPick (of c.args.self.now) (copied_slot told.sheet.slots) c.args.pick in
    subst (λ (q : Request). HasFollowed c.args.self.now fits c.args.number c.args.actor q c.turn_told-entry.result c.note.new.self) (copier_asked c.args.self.now.lane c.args.pick)
    (entry_followed c.args.self.now c.turn_told-entry.new.self c.note.new.self fits c.args.number c.args.actor _ c.turn_told-entry.result c.turn_told-entry.ensures c.note.ensures)
