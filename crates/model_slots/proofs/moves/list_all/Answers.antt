use Rattle.std.proofs.Common.{refl}
use Rattle.fc_base.specs.Sheet.{column}
use Rattle.model_slots.proofs.Asking.{list_done}
use Rattle.model_slots.proofs.moves.list_all.Goals as goal

pub returns : goal.returns
returns c = list_done (column c.args.slots.now c.args.grain) _ c.args.roots.now _ c.loop-root.root-index refl c.loop-root.invariant c.loop-root-test.false
