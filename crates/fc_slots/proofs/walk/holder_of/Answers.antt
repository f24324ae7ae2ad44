use Rattle.std.proofs.Common.{◌∙◌, sym, arith}
use Rattle.fc_slots.proofs.Finds.{holder_read, holder_not_found, holder_ends}
use Rattle.fc_slots.proofs.walk.holder_of.Goals as goal

pub returns-then-holds-clause-value : goal.returns-then-holds-clause-value
returns-then-holds-clause-value c =
    holder_read _ _ _ c.loop-bound.bound _ c.index-slots-bound.result c.requires.there c.index-slots-of.is c.loop-bound-test.true c.loop-bound.invariant.in_range c.index-slots-bound.is
    (sym c.chain.ensures ∙ (c.if-chain.false ∙ c.chain-chain.ensures)) (sym c.holds.ensures ∙ c.if-holds.true) c.loop-bound.invariant.none_after

pub returns-clause-value : goal.returns-clause-value
returns-clause-value c = holder_not_found _ _ _ (λ j a b q t. c.loop-bound.invariant.none_after j (omega arith) b q t)

pub returns-then-chain-clause-value : goal.returns-then-chain-clause-value
returns-then-chain-clause-value c =
    holder_ends _ _ _ c.loop-bound.bound _ c.index-slots-bound.result c.requires.together c.requires.there c.index-slots-of.is c.loop-bound-test.true c.loop-bound.invariant.in_range c.index-slots-bound.is
    (λ e. c.if-chain.true (c.chain.ensures ∙ (e ∙ sym c.chain-chain.ensures))) c.loop-bound.invariant.none_after
