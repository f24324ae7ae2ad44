use Rattle.std.proofs.Common.{arith, refl}
use Rattle.fc_tallies.proofs.Words.{made_none, made_more, cleared_bits, zeros}
use Rattle.fc_tallies.proofs.waiting.clear_waiting.Goals as goal

pub loop-index-init : goal.loop-index-init
loop-index-init c = made_none zeros c.args.waiting.now

pub loop-index-preserved : goal.loop-index-preserved
loop-index-preserved c = made_more zeros c.args.waiting.now c.loop-index.waiting c.loop-index.index 0 (omega arith) refl c.loop-index.invariant

pub returns : goal.returns
returns c = λ g lt. cleared_bits c.args.waiting.now c.loop-index.waiting c.loop-index.index g c.loop-index.invariant (omega arith)
