use Rattle.std.proofs.Common.{◌≡◌, ◌-◌, ◌*◌, ◌^◌, bit_and, get_or, length, arith, refl, ap, ◌∙◌}
use Rattle.fc_base.specs.Counts.{count_below}
use Rattle.fc_tallies.proofs.Words.{made_none, made_more, left_bits, left_of, both_set, count_next, next_fits}
use Rattle.fc_tallies.proofs.waiting.take_held.Goals as goal

pub overflow_add-count : goal.overflow_add-count
overflow_add-count c =
    let a = c.args.waiting.now in
    let b = c.args.held.now in
    let i = c.loop-index.index in
    let same = c.loop-index.invariant.made.ahead i (omega arith) in
    record { fits = next_fits a b i (length b) _ (count_next a b c.loop-index.waiting i c.loop-index.count ((c.type_inv.held i).fits) same c.loop-index.invariant.counted) (omega arith) c.requires.few }

pub loop-index-init : goal.loop-index-init
loop-index-init c = record { made = made_none (left_of c.args.waiting.now c.args.held.now) c.args.waiting.now; counted = refl }

pub loop-index-preserved : goal.loop-index-preserved
loop-index-preserved c =
    let a = c.args.waiting.now in
    let b = c.args.held.now in
    let i = c.loop-index.index in
    let same = c.loop-index.invariant.made.ahead i (omega arith) in
    record {
      made = made_more (left_of a b) a c.loop-index.waiting i _ (omega arith) (ap (λ z. bit_and z (2 ^ 64 - 1 - get_or b i 0)) same) c.loop-index.invariant.made;
      counted = count_next a b c.loop-index.waiting i c.loop-index.count ((c.type_inv.held i).fits) same c.loop-index.invariant.counted;
    }

pub returns : goal.returns
returns c =
    let here : c.loop-index.index ≡ length c.args.held.now = omega arith in
    record {
      count = c.loop-index.invariant.counted ∙ ap (λ z. count_below (both_set c.args.waiting.now c.args.held.now) (64 * z)) here;
      left = λ g lt. left_bits c.args.waiting.now c.args.held.now c.loop-index.waiting c.loop-index.index g (λ k. (c.type_inv.held k).fits) c.loop-index.invariant.made (omega arith);
    }
