use Rattle.std.proofs.Common.{◌∙◌, sym}
use Rattle.fc_slots.proofs.Finds.{waiting_ends, waiting_held}
use Rattle.fc_slots.proofs.walk.first_waiting.Goals as goal
use Rattle.fc_slots.proofs.walk.first_waiting.Goals.{then-chain-via-then-chain, then-chain-via-else-chain+then-holds}

pub returns-then-chain-clause-value : goal.returns-then-chain-clause-value
returns-then-chain-clause-value c =
    elim c.then-chain.branch [
      | then-chain-via-then-chain w ↦ waiting_ends _ _ _ _ c.loop-place.place _ c.index-slots-place.result c.requires.together c.requires.there c.index-slots-from.is c.loop-place.invariant.behind c.loop-place-test.true c.index-slots-place.is
          (λ e. w.if-chain.true (c.chain.ensures ∙ (e ∙ sym c.chain-chain.ensures))) c.loop-place.invariant.none_waits
      | then-chain-via-else-chain+then-holds w ↦ waiting_held _ _ _ _ c.loop-place.place _ c.index-slots-place.result c.requires.there c.index-slots-from.is c.loop-place.invariant.behind c.loop-place-test.true c.index-slots-place.is
          (sym c.chain.ensures ∙ (w.if-chain.false ∙ c.chain-chain.ensures)) (sym w.holds.ensures ∙ w.if-holds.true) c.loop-place.invariant.none_waits
    ]
