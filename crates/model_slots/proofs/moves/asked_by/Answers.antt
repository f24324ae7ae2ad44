use Rattle.std.proofs.Common.{◌∙◌, sym, ap}
use Rattle.std.specs.Prelude.{filter_map}
use Rattle.std.proofs.lemmas.Result.{IfOk-weaker}
use Rattle.fc_base.specs.Column.{needer}
use Rattle.fc_base.specs.Sheet.{column}
use Rattle.model_slots.proofs.Asking.{asks_in_place, asks_others}
use Rattle.model_slots.proofs.moves.asked_by.Goals as goal

pub returns-then-fills_in_place : goal.returns-then-fills_in_place
returns-then-fills_in_place c = asks_in_place _ _ _ (sym c.if-fills_in_place.true ∙ c.fills_in_place.ensures) c.new.ensures.items

pub returns-in_ok-holders : goal.returns-in_ok-holders
returns-in_ok-holders c =
    IfOk-weaker c.needers_of.result _ _ (λ places e. asks_others (column c.args.slots.now c.args.grain) c.args.place c.volume_at.result c.in_ok-holders.holders.items places.items
    (sym c.if-fills_in_place.false ∙ c.fills_in_place.ensures) c.volume_at.ensures c.in_ok-holders.ensures
    (e ∙ ap (filter_map (needer (column c.args.slots.now c.args.grain))) c.as_slice.ensures.value)) c.needers_of.ensures
