use Rattle.std.proofs.Common.{arith}
use Rattle.fc_events.proofs.Behind.{found_behind, not_behind}
use Rattle.fc_events.proofs.events.has_behind.Goals as goal

pub returns-then-chain : goal.returns-then-chain
returns-then-chain c =
    found_behind _ _ c.loop-behind.behind _ c.index-slots-place.result c.index-slots-behind.result c.requires c.index-slots-place.is c.loop-behind.invariant.behind c.loop-behind-test.true c.index-slots-behind.is
    c.chain-chain.ensures (omega (arith, c.chain.ensures, c.if-chain.true))

pub returns : goal.returns
returns c = not_behind _ _ c.loop-behind.behind c.loop-behind-test.false c.loop-behind.invariant.none
