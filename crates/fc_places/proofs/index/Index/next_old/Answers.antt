use Rattle.std.proofs.Common.{◌≡◌, false, ap, ◌∙◌, sym, arith}
use Rattle.fc_places.specs.Indexing.{Index}
use Rattle.fc_places.proofs.Olds.{is_old_after}
use Rattle.fc_places.proofs.Sorting.{range_end, other_key, old_none, old_here}
use Rattle.fc_places.proofs.index.Index.next_old.Goals as goal

pub returns-then-is_old_after : goal.returns-then-is_old_after
returns-then-is_old_after c =
    old_here c.args.slots.now c.self.inside.entries.items c.args.self.now.entries c.args.volume c.from-key.result c.loop-at.at c.len.result c.args.after c.index.result.now c.index-in-loop-at.result.now c.index-slots-place.result
    c.requires.apart c.requires.index (ap (λ (x : Index). x.entries) c.self.view_is) (omega (arith, c.len.ensures, c.self.inside.entries.ok.0)) c.loop-at-test.true c.from-key.ensures c.index.ensures c.if-index-key.true c.index-in-loop-at.ensures c.index-slots-place.is
    (sym c.is_old_after.ensures ∙ c.if-is_old_after.true) c.loop-at.invariant.none

pub returns-else-index-key : goal.returns-else-index-key
returns-else-index-key c =
    old_none c.args.slots.now c.args.volume c.args.after c.requires.apart
    (range_end c.args.slots.now c.self.inside.entries.items c.args.self.now.entries c.deref.result.now c.args.volume c.from-key.result _ c.first_from-at.result c.loop-at.at c.len.result (λ k. is_old_after c.args.slots.now c.args.volume c.args.after k ≡ false)
    c.requires.index (ap (λ (x : Index). x.entries) c.self.view_is) c.deref.ensures.value (omega (arith, c.len.ensures, c.self.inside.entries.ok.0)) c.from-key.ensures c.first_from-at.ensures c.loop-at.invariant.first c.loop-at.invariant.none
    (λ lt. other_key c.self.inside.entries.items c.args.self.now.entries c.loop-at.at c.len.result c.from-key.result c.index.result.now (ap (λ (x : Index). x.entries) c.self.view_is) (omega (arith, c.len.ensures, c.self.inside.entries.ok.0)) c.loop-at-test.true c.index.ensures c.if-index-key.false))

pub returns-after-loop-at : goal.returns-after-loop-at
returns-after-loop-at c =
    old_none c.args.slots.now c.args.volume c.args.after c.requires.apart
    (range_end c.args.slots.now c.self.inside.entries.items c.args.self.now.entries c.deref.result.now c.args.volume c.from-key.result _ c.first_from-at.result c.loop-at.at c.len.result (λ k. is_old_after c.args.slots.now c.args.volume c.args.after k ≡ false)
    c.requires.index (ap (λ (x : Index). x.entries) c.self.view_is) c.deref.ensures.value (omega (arith, c.len.ensures, c.self.inside.entries.ok.0)) c.from-key.ensures c.first_from-at.ensures c.loop-at.invariant.first c.loop-at.invariant.none
    (λ lt. absurd (omega (arith, c.loop-at-test.false))))
