use Rattle.std.proofs.Common.{arith}
use Rattle.model_slots.proofs.Needs.{false_is, never_needed}
use Rattle.model_slots.proofs.need.needed_somewhere.Goals as goal

pub returns : goal.returns
returns c = false_is (never_needed c.args.slots.now c.args.place c.loop-grain.grain (omega arith) c.loop-grain.invariant)
