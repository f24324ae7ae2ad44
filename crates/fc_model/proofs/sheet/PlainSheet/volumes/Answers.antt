use Rattle.std.proofs.Common.{ℕ, ◌<◌, IfOk, List, length, subst}
use Rattle.std.specs.Prelude.{Contains}
use Rattle.fc_base.specs.Sheet.{Slot, slot_at}
use Rattle.fc_model.proofs.sheet.PlainSheet.volumes.Goals as goal

pub returns : goal.returns
returns c = subst (λ (z : List Slot). IfOk c.volumes_of.result (λ volumes. (k : ℕ) → k < length z → Contains volumes.items (slot_at z k).volume)) c.slots.ensures c.volumes_of.ensures
