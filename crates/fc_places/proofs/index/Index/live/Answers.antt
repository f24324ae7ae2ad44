use Rattle.std.proofs.Common.{ap, ◌∙◌, sym, arith}
use Rattle.fc_places.specs.Indexing.{Index}
use Rattle.fc_places.proofs.Sorting.{live_here, live_gone, other_key}
use Rattle.fc_places.proofs.index.Index.live.Goals as goal

pub returns-then-is_live-clause-value : goal.returns-then-is_live-clause-value
returns-then-is_live-clause-value c =
    live_here c.args.slots.now c.self.inside.entries.items c.args.self.now.entries c.args.volume c.from-key.result c.loop-at.at c.len.result c.index.result.now c.index-in-loop-at.result.now c.index-slots-place.result
    c.requires.one_live c.requires.index (ap (λ (x : Index). x.entries) c.self.view_is) (omega (arith, c.len.ensures, c.self.inside.entries.ok.0)) c.loop-at-test.true c.from-key.ensures c.index.ensures c.if-index-key.true c.index-in-loop-at.ensures c.index-slots-place.is (sym c.is_live.ensures ∙ c.if-is_live.true)

pub returns-else-index-key-clause-value : goal.returns-else-index-key-clause-value
returns-else-index-key-clause-value c =
    live_gone c.args.slots.now c.self.inside.entries.items c.args.self.now.entries c.deref.result.now c.args.volume c.from-key.result c.first_from-at.result c.loop-at.at c.len.result
    c.requires.index (ap (λ (x : Index). x.entries) c.self.view_is) c.deref.ensures.value (omega (arith, c.len.ensures, c.self.inside.entries.ok.0)) c.from-key.ensures c.first_from-at.ensures c.loop-at.invariant.first c.loop-at.invariant.none
    (λ lt. other_key c.self.inside.entries.items c.args.self.now.entries c.loop-at.at c.len.result c.from-key.result c.index.result.now (ap (λ (x : Index). x.entries) c.self.view_is) (omega (arith, c.len.ensures, c.self.inside.entries.ok.0)) c.loop-at-test.true c.index.ensures c.if-index-key.false)

pub returns-after-loop-at-clause-value : goal.returns-after-loop-at-clause-value
returns-after-loop-at-clause-value c =
    live_gone c.args.slots.now c.self.inside.entries.items c.args.self.now.entries c.deref.result.now c.args.volume c.from-key.result c.first_from-at.result c.loop-at.at c.len.result
    c.requires.index (ap (λ (x : Index). x.entries) c.self.view_is) c.deref.ensures.value (omega (arith, c.len.ensures, c.self.inside.entries.ok.0)) c.from-key.ensures c.first_from-at.ensures c.loop-at.invariant.first c.loop-at.invariant.none
    (λ lt. absurd (omega (arith, c.loop-at-test.false)))
