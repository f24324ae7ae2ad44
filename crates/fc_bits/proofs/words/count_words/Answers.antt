use Rattle.std.proofs.Common.{count_ones, ◌≡◌, ℕ, ◌+◌, ◌-◌, length, take, drop, ◌^◌, ◌<◌, Fits, get_or, List, ap, ◌∙◌, arith}
use Rattle.std.specs.Simd.Lanes.{fold_l}
use Rattle.std.proofs.lemmas.List.{take_rest, drop_all}
use Rattle.std.specs.Int.{w64}
use Rattle.fc_bits.specs.Grains.{count_set}
use Rattle.fc_bits.specs.Words.{bits_of}
use Rattle.std.proofs.lemmas.List.Sums.{sum_by-drop_more}
use Rattle.fc_bits.specs.declared.scan.TheConstants.{LANES}
use Rattle.fc_bits.proofs.Counting.{ones_of, count-bits_of}
use Rattle.fc_bits.proofs.Vectors.{counts_fit, counted_more, total_fits, total-lt, total_and_rest}
use Rattle.fc_bits.proofs.words.count_words.Goals as goal

few : (words : List ℕ) → count_set (bits_of words) < 2 ^ 32 → ((k : ℕ) → Fits w64 (get_or words k 0)) → ones_of words < 2 ^ 32
few words low fits = omega (arith, count-bits_of words (λ k. (fits k).fits))

pub overflow_add-counts : goal.overflow_add-counts
overflow_add-counts c = counts_fit c.args.words.now c.loop-at.counts c.loop-at.at LANES (few c.args.words.now c.requires c.type_inv.words) c.loop-at.invariant.counted

pub loop-at-preserved : goal.loop-at-preserved
loop-at-preserved c = record {
  within = omega arith;
  counted = counted_more c.args.words.now c.loop-at.counts c.loop-at.at LANES c.loop-at.auto.counts.0 (omega arith) c.loop-at.invariant.counted;
}

pub overflow_add-total : goal.overflow_add-total
overflow_add-total c = total_fits c.args.words.now c.loop-at.counts c.loop-at.at (few c.args.words.now c.requires c.type_inv.words) c.loop-at.invariant.counted

pub overflow_cast-total : goal.overflow_cast-total
overflow_cast-total c = record { fits = total-lt c.args.words.now c.loop-at.counts c.loop-at.at (few c.args.words.now c.requires c.type_inv.words) c.loop-at.invariant.counted }

pub loop-word-init : goal.loop-word-init
loop-word-init c =
    ap (λ (x : List ℕ). fold_l (λ s n. s + n) 0 c.loop-at.counts + ones_of x) (take_rest c.args.words.now c.loop-at.at)
    ∙ total_and_rest c.args.words.now c.loop-at.counts c.loop-at.at c.loop-at.invariant.counted

pub overflow_add-total-in-loop-word : goal.overflow_add-total-in-loop-word
overflow_add-total-in-loop-word c =
    let rest = take (length c.args.words.now - c.loop-at.at) (drop c.loop-at.at c.args.words.now) in
    let counted : c.loop-word.total + ones_of (drop c.loop-word.word-index rest) ≡ ones_of c.args.words.now = c.loop-word.invariant in
    record { fits = omega (arith, counted, sum_by-drop_more count_ones rest c.loop-word.word-index 0 c.loop-word-test.true, few c.args.words.now c.requires c.type_inv.words) }

pub returns : goal.returns
returns c =
    let rest = take (length c.args.words.now - c.loop-at.at) (drop c.loop-at.at c.args.words.now) in
    let counted : c.loop-word.total + ones_of (drop c.loop-word.word-index rest) ≡ ones_of c.args.words.now = c.loop-word.invariant in
    let none : ones_of (drop c.loop-word.word-index rest) ≡ 0 = ap ones_of (drop_all c.loop-word.word-index rest c.loop-word-test.false) in
    omega (arith, counted, none, count-bits_of c.args.words.now (λ k. (c.type_inv.words k).fits))
