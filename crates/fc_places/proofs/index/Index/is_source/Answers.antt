use Rattle.std.proofs.Common.{ap, arith}
use Rattle.std.proofs.lemmas.Bool.{false≢true}
use Rattle.fc_base.specs.Counts.{LiveBehind}
use Rattle.fc_places.specs.Indexing.{Index}
use Rattle.fc_places.proofs.Sorting.{range_end, other_key, not_used}
use Rattle.fc_places.proofs.index.Index.is_source.Goals as goal

pub returns-else-index-key : goal.returns-else-index-key
returns-else-index-key c = (
  λ t. absurd (false≢true t),
  λ u. absurd (not_used c.args.slots.now c.args.volume
      (range_end c.args.slots.now c.self.inside.entries.items c.args.self.now.entries c.deref.result.now c.args.volume c.from-key.result 0 c.first_from-at.result c.loop-at.at c.len.result (λ k. LiveBehind c.args.slots.now k → ⊥)
      c.requires.index (ap (λ (x : Index). x.entries) c.self.view_is) c.deref.ensures.value (omega (arith, c.len.ensures, c.self.inside.entries.ok.0)) c.from-key.ensures c.first_from-at.ensures c.loop-at.invariant.first c.loop-at.invariant.none
      (λ lt. other_key c.self.inside.entries.items c.args.self.now.entries c.loop-at.at c.len.result c.from-key.result c.index.result.now (ap (λ (x : Index). x.entries) c.self.view_is) (omega (arith, c.len.ensures, c.self.inside.entries.ok.0)) c.loop-at-test.true c.index.ensures c.if-index-key.false)) u),
)

pub returns-after-loop-at : goal.returns-after-loop-at
returns-after-loop-at c = (
  λ t. absurd (false≢true t),
  λ u. absurd (not_used c.args.slots.now c.args.volume
      (range_end c.args.slots.now c.self.inside.entries.items c.args.self.now.entries c.deref.result.now c.args.volume c.from-key.result 0 c.first_from-at.result c.loop-at.at c.len.result (λ k. LiveBehind c.args.slots.now k → ⊥)
      c.requires.index (ap (λ (x : Index). x.entries) c.self.view_is) c.deref.ensures.value (omega (arith, c.len.ensures, c.self.inside.entries.ok.0)) c.from-key.ensures c.first_from-at.ensures c.loop-at.invariant.first c.loop-at.invariant.none
      (λ lt. absurd (omega (arith, c.loop-at-test.false)))) u),
)
