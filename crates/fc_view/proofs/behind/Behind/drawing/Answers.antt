use Rattle.std.proofs.Common.{refl}
use Rattle.fc_view.proofs.behind.Behind.drawing.Goals as goal

pub returns : goal.returns
returns c = record { entry_is = refl; slots_are = refl; sources_are = c.as_slice.ensures.value; reason_is = c.reason_of_entry.ensures }
