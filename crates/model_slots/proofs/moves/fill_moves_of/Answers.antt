use Rattle.std.proofs.Common.{◌∙◌, ap, map}
use Rattle.std.proofs.lemmas.Result.{IfOk-weaker}
use Rattle.fc_base.specs.Plan.{move_at}
use Rattle.fc_base.specs.Sheet.{column}
use Rattle.model_slots.proofs.Asking.{fill_all}
use Rattle.model_slots.proofs.moves.fill_moves_of.Goals as goal

pub returns : goal.returns
returns c =
    IfOk-weaker c.moves_for.result _ _ (λ moves e. e ∙ ap (map (move_at c.args.slots.now c.args.grain c.args.number.0)) (fill_all (column c.args.slots.now c.args.grain) c.args.place)) c.moves_for.ensures
