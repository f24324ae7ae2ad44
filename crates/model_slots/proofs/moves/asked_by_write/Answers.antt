use Rattle.std.proofs.Common.{◌∙◌, ap}
use Rattle.std.specs.Prelude.{filter_map}
use Rattle.fc_base.specs.Column.{first_reader}
use Rattle.fc_base.specs.Sheet.{column}
use Rattle.model_slots.proofs.Asking.{write_asked}
use Rattle.model_slots.proofs.moves.asked_by_write.Goals as goal

pub returns : goal.returns
returns c =
    write_asked (column c.args.slots.now c.args.grain) c.args.live c.volume_at.result c.in_ok-holders.holders.items c.in_ok-asked.asked.items c.push_found.new.places.items c.next_waiting.result
    c.volume_at.ensures c.in_ok-holders.ensures (c.in_ok-asked.ensures ∙ ap (filter_map (first_reader (column c.args.slots.now c.args.grain) c.args.live)) c.as_slice.ensures.value)
    c.next_waiting.ensures c.in_ok-push_found.ensures
