use Rattle.model_slots.proofs.Columns.{in_place_some, in_place_none}
use Rattle.model_slots.proofs.column.fills_in_place.Goals as goal

pub returns-in-Some : goal.returns-in-Some
returns-in-Some c = in_place_some _ _ _ _ _ _ c.in-Some.ensures c.volume_at.ensures c.is_old_at.ensures

pub returns-in-None : goal.returns-in-None
returns-in-None c = in_place_none _ _ _ c.in-None.ensures
