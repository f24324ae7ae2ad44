use Rattle.fc_recovered.proofs.Walking.{found_chain, next_chain}
use Rattle.fc_recovered.proofs.chains.chain_with.Goals as goal

pub returns-then-has_live : goal.returns-then-has_live
returns-then-has_live c t =
    found_chain t c.args.volume.0 c.args.chains.now c.loop-chain.chain-index c.chain-item.result c.has_live.result c.loop-chain-test.true c.chain-item.is c.has_live.ensures c.if-has_live.true
    (c.loop-chain.invariant t)

pub loop-chain-preserved : goal.loop-chain-preserved
loop-chain-preserved c t =
    next_chain t c.args.volume.0 c.args.chains.now c.loop-chain.chain-index c.chain-item.result c.has_live.result c.loop-chain-test.true c.chain-item.is c.has_live.ensures c.if-has_live.false
    (c.loop-chain.invariant t)
