use Rattle.fc_check_lane.proofs.Stepping.{write_steps_are}
use Rattle.fc_check_lane.proofs.known.Known.write_steps.Goals as goal

pub returns : goal.returns
returns c = write_steps_are c.args.self.now _ _ c.args.number c.args.live c.args.part _ _ _ _ _ _ _ _ _
    c.chains-sheet.ensures c.plain.ensures c.grain_size.ensures c.in_ok-moves.ensures c.as_slice.ensures c.as_slice-2.ensures c.in_ok-side.ensures
    c.calls_of_write-calls.ensures c.in_ok-steps.ensures c.own_step.ensures c.in_ok-push_item.ensures
