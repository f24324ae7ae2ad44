use Rattle.std.proofs.Common.{◌∙◌, sym}
use Rattle.fc_slots.proofs.Finds.{live_ends}
use Rattle.fc_tallies.proofs.next.next_live.Goals as goal

pub returns-then-chain : goal.returns-then-chain
returns-then-chain c =
    live_ends _ _ c.loop-behind.behind _ c.index-slots-behind.result c.requires.together c.requires.there c.index-slots-place.is c.loop-behind.invariant.behind c.loop-behind-test.true c.index-slots-behind.is
    (λ e. c.if-chain.true (c.chain.ensures ∙ (e ∙ sym c.chain-chain.ensures))) c.loop-behind.invariant.none
