use Rattle.std.proofs.Common.{◌∙◌, sym, ap, map, reverse}
use Rattle.std.proofs.lemmas.Result.{IfOk-weaker}
use Rattle.fc_base.specs.Moves.{list_all_with_asked}
use Rattle.fc_base.specs.Plan.{move_at, moves_of_write}
use Rattle.fc_base.specs.Sheet.{column}
use Rattle.model_slots.proofs.Asking.{write_all}
use Rattle.model_slots.proofs.moves.write_moves_of.Goals as goal

pub returns-in_ok-roots-in-Some : goal.returns-in_ok-roots-in-Some
returns-in_ok-roots-in-Some c =
    IfOk-weaker c.moves_for.result _ _ (λ moves e. e ∙
    (ap (λ z. map (move_at c.args.slots.now c.args.grain c.args.number.0) (reverse (list_all_with_asked (column c.args.slots.now c.args.grain) z))) (c.as_slice.ensures.value ∙ c.in_ok-roots-in-Some.ensures)
    ∙ (ap (map (move_at c.args.slots.now c.args.grain c.args.number.0)) (write_all (column c.args.slots.now c.args.grain) c.in-Some.live)
    ∙ ap (moves_of_write c.args.slots.now c.args.grain c.args.number.0) (sym c.in-Some.is)))) c.moves_for.ensures
