use Rattle.std.proofs.Common.{arith, refl}
use Rattle.fc_tallies.proofs.Words.{made_none, made_more, others_bits, others_of}
use Rattle.fc_tallies.proofs.waiting.wait_for_others.Goals as goal

pub loop-index-init : goal.loop-index-init
loop-index-init c = made_none (others_of c.args.held.now) c.args.waiting.now

pub loop-index-preserved : goal.loop-index-preserved
loop-index-preserved c = made_more (others_of c.args.held.now) c.args.waiting.now c.loop-index.waiting c.loop-index.index _ (omega arith) refl c.loop-index.invariant

pub returns : goal.returns
returns c = λ g lt. others_bits c.args.waiting.now c.args.held.now c.loop-index.waiting c.loop-index.index g (λ k. (c.type_inv.held k).fits) c.loop-index.invariant (omega arith)
