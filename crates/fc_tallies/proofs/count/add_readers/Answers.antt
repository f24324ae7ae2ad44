use Rattle.std.proofs.Common.{◌+◌, ◌-◌, length, arith, sym, ap, ◌∙◌}
use Rattle.std.proofs.lemmas.Bool.{both_ways}
use Rattle.fc_base.specs.Counts.{is_direct}
use Rattle.fc_base.specs.Sheet.{Slot}
use Rattle.fc_slots.proofs.Finds.{read_at}
use Rattle.fc_tallies.proofs.Direct.{walk_first, step_to, stepped, taken_le, listed_none, listed_one, listed_all, listed_first, remaining_first, direct_yes, direct_old, direct_none, direct_past}
use Rattle.fc_tallies.proofs.Fronts.{always_err, first_added}
use Rattle.fc_tallies.proofs.count.add_readers.Goals as goal
use Rattle.fc_tallies.proofs.count.add_readers.Goals.{else-remaining-gt0-via-then-remaining-gt0+else-is_live, else-remaining-gt0-via-else-remaining-gt0}

pub loop-remaining-init : goal.loop-remaining-init
loop-remaining-init c = record {
  walk = walk_first c.args.slots.now c.args.place c.requires.there;
  left = remaining_first c.args.slots.now c.args.place c.index-slots-place.result c.args.left.now c.held_count-remaining.result c.requires.there c.index-slots-place.is c.held_count-remaining.ensures c.requires.left;
  listed = listed_first c.args.slots.now c.args.place c.args.out.now;
}

pub take_held-remaining-requires-clause-few : goal.take_held-remaining-requires-clause-few
take_held-remaining-requires-clause-few c =
    let s = step_to c.args.slots.now c.args.place c.loop-remaining.reader c.loop-remaining.left c.words.result.now c.loop-remaining.remaining c.index-slots-reader.result c.held.result.now c.requires.sizes c.loop-remaining.invariant.walk (c.goes_on.ensures.0 c.if-goes_on.true) c.loop-remaining.invariant.left (c.loop-remaining.auto.remaining-fits.fits) c.index-slots-reader.is c.held.ensures c.words.ensures.len c.words.ensures.bits c.words.ensures.numbered in
    s.few

pub take_held-remaining-requires-clause-room : goal.take_held-remaining-requires-clause-room
take_held-remaining-requires-clause-room c =
    let s = step_to c.args.slots.now c.args.place c.loop-remaining.reader c.loop-remaining.left c.words.result.now c.loop-remaining.remaining c.index-slots-reader.result c.held.result.now c.requires.sizes c.loop-remaining.invariant.walk (c.goes_on.ensures.0 c.if-goes_on.true) c.loop-remaining.invariant.left (c.loop-remaining.auto.remaining-fits.fits) c.index-slots-reader.is c.held.ensures c.words.ensures.len c.words.ensures.bits c.words.ensures.numbered in
    omega (arith, s.same_length)

pub overflow_sub-remaining : goal.overflow_sub-remaining
overflow_sub-remaining c =
    let s = step_to c.args.slots.now c.args.place c.loop-remaining.reader c.loop-remaining.left c.words.result.now c.loop-remaining.remaining c.index-slots-reader.result c.held.result.now c.requires.sizes c.loop-remaining.invariant.walk (c.goes_on.ensures.0 c.if-goes_on.true) c.loop-remaining.invariant.left (c.loop-remaining.auto.remaining-fits.fits) c.index-slots-reader.is c.held.ensures c.words.ensures.len c.words.ensures.bits c.words.ensures.numbered in
    taken_le c.args.slots.now c.args.place c.loop-remaining.reader c.loop-remaining.left c.take_held-remaining.new.waiting c.words.result.now c.loop-remaining.remaining c.take_held-remaining.result c.loop-remaining.invariant.left s.same_length c.take_held-remaining.ensures.count

pub loop-remaining-preserved : goal.loop-remaining-preserved
loop-remaining-preserved c =
    let go = c.goes_on.ensures.0 c.if-goes_on.true in
    let s = step_to c.args.slots.now c.args.place c.loop-remaining.reader c.loop-remaining.left c.words.result.now c.loop-remaining.remaining c.index-slots-reader.result c.held.result.now c.requires.sizes c.loop-remaining.invariant.walk go c.loop-remaining.invariant.left (c.loop-remaining.auto.remaining-fits.fits) c.index-slots-reader.is c.held.ensures c.words.ensures.len c.words.ensures.bits c.words.ensures.numbered in
    let left = stepped c.args.slots.now c.args.place c.loop-remaining.reader c.loop-remaining.left c.take_held-remaining.new.waiting c.words.result.now c.loop-remaining.remaining c.take_held-remaining.result c.loop-remaining.invariant.walk go c.loop-remaining.invariant.left s c.take_held-remaining.auto.waiting c.take_held-remaining.ensures.count c.take_held-remaining.ensures.left in
    record {
      walk = s.walk;
      left = left;
      listed = listed_none c.args.slots.now c.args.place (c.loop-remaining.reader + 1) c.loop-remaining.out c.args.out.now
          (elim c.else-remaining-gt0.branch [
            | else-remaining-gt0-via-then-remaining-gt0+else-is_live w ↦ direct_old c.args.slots.now c.args.place (c.loop-remaining.reader + 1) (ap (λ (x : Slot). x.is_live) (read_at c.args.slots.now (c.loop-remaining.reader + 1) c.index-slots-reader.result go.0 c.index-slots-reader.is) ∙ (sym w.is_live.ensures ∙ w.if-is_live.false))
            | else-remaining-gt0-via-else-remaining-gt0 w ↦ direct_none c.args.slots.now c.args.place (c.loop-remaining.reader + 1) (c.loop-remaining.reader + 1) c.take_held-remaining.new.waiting (c.loop-remaining.remaining - c.take_held-remaining.result) s.walk left (omega arith) (omega arith)
          ])
          c.loop-remaining.invariant.listed;
    }

pub loop-remaining-preserved-then-is_live : goal.loop-remaining-preserved-then-is_live
loop-remaining-preserved-then-is_live c =
    let go = c.goes_on.ensures.0 c.if-goes_on.true in
    let s = step_to c.args.slots.now c.args.place c.loop-remaining.reader c.loop-remaining.left c.words.result.now c.loop-remaining.remaining c.index-slots-reader.result c.held.result.now c.requires.sizes c.loop-remaining.invariant.walk go c.loop-remaining.invariant.left (c.loop-remaining.auto.remaining-fits.fits) c.index-slots-reader.is c.held.ensures c.words.ensures.len c.words.ensures.bits c.words.ensures.numbered in
    let left = stepped c.args.slots.now c.args.place c.loop-remaining.reader c.loop-remaining.left c.take_held-remaining.new.waiting c.words.result.now c.loop-remaining.remaining c.take_held-remaining.result c.loop-remaining.invariant.walk go c.loop-remaining.invariant.left s c.take_held-remaining.auto.waiting c.take_held-remaining.ensures.count c.take_held-remaining.ensures.left in
    record {
      walk = s.walk;
      left = left;
      listed = c.in_ok-push.ensures.ok ∙ listed_one c.args.slots.now c.args.place (c.loop-remaining.reader + 1) c.birth.result c.loop-remaining.out c.args.out.now
          (direct_yes c.args.slots.now c.args.place (c.loop-remaining.reader + 1) c.take_held-remaining.new.waiting (c.loop-remaining.remaining - c.take_held-remaining.result) c.requires.sizes s.walk (omega (arith, c.loop-remaining.invariant.walk.behind)) left c.if-remaining-gt0.true
          (ap (λ (x : Slot). x.is_live) (read_at c.args.slots.now (c.loop-remaining.reader + 1) c.index-slots-reader.result go.0 c.index-slots-reader.is) ∙ (sym c.is_live.ensures ∙ c.if-is_live.true)))
          (c.birth.ensures ∙ ap (λ (x : Slot). x.birth) (sym (read_at c.args.slots.now (c.loop-remaining.reader + 1) c.index-slots-reader.result go.0 c.index-slots-reader.is)))
          c.loop-remaining.invariant.listed;
    }

pub returns-else-goes_on-clause-ok : goal.returns-else-goes_on-clause-ok
returns-else-goes_on-clause-ok c =
    listed_all c.args.slots.now c.args.place (c.loop-remaining.reader + 1) (length c.args.slots.now) c.loop-remaining.out c.args.out.now (omega (arith, c.loop-remaining.invariant.walk.there))
    (λ i lo hi. direct_past c.args.slots.now c.args.place c.loop-remaining.reader i c.requires.together c.loop-remaining.invariant.walk (λ go. both_ways c.goes_on.result c.if-goes_on.false (c.goes_on.ensures.1 go)) (omega arith) hi)
    c.loop-remaining.invariant.listed

pub returns-after-loop-remaining-clause-ok : goal.returns-after-loop-remaining-clause-ok
returns-after-loop-remaining-clause-ok c =
    listed_all c.args.slots.now c.args.place (c.loop-remaining.reader + 1) (length c.args.slots.now) c.loop-remaining.out c.args.out.now (omega (arith, c.loop-remaining.invariant.walk.there))
    (λ i lo hi. direct_none c.args.slots.now c.args.place c.loop-remaining.reader i c.loop-remaining.left c.loop-remaining.remaining c.loop-remaining.invariant.walk c.loop-remaining.invariant.left (omega arith) (omega arith))
    c.loop-remaining.invariant.listed

pub returns-in_err-push-clause-err : goal.returns-in_err-push-clause-err
returns-in_err-push-clause-err c =
    always_err c.from_residual.result
    (first_added c.args.slots.now (is_direct c.args.slots.now c.args.place) (c.loop-remaining.reader + 1) (length c.args.slots.now) c.args.out.now c.push.new.self
    (omega (arith, c.loop-remaining.invariant.walk.there)) (c.in_err-push.ensures.err ∙ c.loop-remaining.invariant.listed))
