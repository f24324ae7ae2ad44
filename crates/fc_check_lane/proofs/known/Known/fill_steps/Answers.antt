use Rattle.std.proofs.lemmas.Result.{IfOk-weaker}
use Rattle.fc_check_lane.proofs.Stepping.{fill_steps_are}
use Rattle.fc_check_lane.proofs.known.Known.fill_steps.Goals as goal

pub returns : goal.returns
returns c =
    IfOk-weaker c.steps_of.result _ _
    (λ steps made. fill_steps_are c.args.self.now c.chains-sheet.result.now c.plain.result.now c.args.number c.args.place c.in_ok-moves.moves c.as_slice.result.now steps.items c.chains-sheet.ensures c.plain.ensures c.in_ok-moves.ensures c.as_slice.ensures made)
    c.steps_of.ensures
