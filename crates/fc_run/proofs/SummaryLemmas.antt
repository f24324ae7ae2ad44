-- The numbers of a summary, counted entry by entry.
use Rattle.std.proofs.Common.{◌≡◌, ℕ, ◌+◌, ◌*◌, ◌%◌, ◌^◌, ◌<◌, ◌≤◌, List, [], ◌∷◌, ◌++◌, Some, slice_get, cond, length, take, replicate, get_or, refl, sym, ◌∙◌, ap, subst, arith, append_assoc, codes, decimal}
use Rattle.std.specs.List.{sum, sum_by}
use Rattle.std.proofs.lemmas.List.{take_all}
use Rattle.std.proofs.lemmas.List.Folds.{sum_by-replicate}
use Rattle.std.proofs.lemmas.List.Sums.{sum_by-append, sum_by-cons, sum_by_more}
use Rattle.std.proofs.lemmas.Option.{get_or_from_slice_get, slice_get_within}
use Rattle.fc_base.specs.Runs.{expanded}
use Rattle.fc_base.specs.declared.runs.Run.{Run}
use Rattle.fc_entry.specs.declared.entry.Entry.{Entry}
use Rattle.fc_run.specs.Summary.{gives_bytes, is_done_write, refuses, bytes_sum}
use Rattle.fc_run.specs.Tallies.{tally_of, tally_text, tally_with}
use Rattle.fc_run.specs.declared.summary.Tally.{Tally}

-- what one run adds to a sum
abbrev pub run_sum : Run → ℕ
run_sum run = run.count * run.byte

-- the sum of the bytes of runs
pub sum-expanded : (runs : List Run) → sum (expanded runs) ≡ sum_by run_sum runs
sum-expanded [] = refl
sum-expanded (run ∷ runs) =
    sum_by-append (λ n. n) (replicate run.count run.byte) (expanded runs)
    ∙ (ap (λ n. n + sum (expanded runs)) (sum_by-replicate (λ n. n) run.count run.byte)
    ∙ (ap (λ n. run_sum run + n) (sum-expanded runs) ∙ sym (sum_by-cons run_sum run runs)))

-- 32 bits of a sum, with one part more
pub kept-more : (start before part total : ℕ) → total ≡ (start + before) % 2 ^ 32 → (total + part % 2 ^ 32) % 2 ^ 32 ≡ (start + (before + part)) % 2 ^ 32
kept-more start before part total is = omega arith

-- a sum with no run
pub total-none : (start : ℕ) → start < 2 ^ 32 → start ≡ (start + 0) % 2 ^ 32
total-none start small = omega arith

-- a sum with one run more
pub total-more :
    (runs : List Run) (i start total next : ℕ) (d : Run) → i < length runs →
    total ≡ (start + sum_by run_sum (take i runs)) % 2 ^ 32 →
    next ≡ (total + run_sum (get_or runs i d) % 2 ^ 32) % 2 ^ 32 →
    next ≡ (start + sum_by run_sum (take (i + 1) runs)) % 2 ^ 32
total-more runs i start total next d inside so_far is =
    is ∙ (kept-more start (sum_by run_sum (take i runs)) (run_sum (get_or runs i d)) total so_far
    ∙ ap (λ n. (start + n) % 2 ^ 32) (sym (sum_by_more run_sum runs i d inside)))

-- a sum with all runs
pub total-all :
    (runs : List Run) (i start total : ℕ) → length runs ≤ i →
    total ≡ (start + sum_by run_sum (take i runs)) % 2 ^ 32 →
    total ≡ (start + sum (expanded runs)) % 2 ^ 32
total-all runs i start total past so_far =
    so_far ∙ (ap (λ l. (start + sum_by run_sum l) % 2 ^ 32) (take_all i runs past) ∙ ap (λ n. (start + n) % 2 ^ 32) (sym (sum-expanded runs)))

-- tallies with the same numbers
tally-same :
    (a b c d e a' b' c' d' e' : ℕ) → a ≡ a' → b ≡ b' → c ≡ c' → d ≡ d' → e ≡ e' →
    Path Tally record { reads = a; writes = b; moves = c; refused = d; sum = e } record { reads = a'; writes = b'; moves = c'; refused = d'; sum = e' }
tally-same a b c d e a' b' c' d' e' p q r s t = cc

-- a tally with the next entry
pub tally-more :
    (entries : List Entry) (i : ℕ) (entry : Entry) (tally next : Tally) →
    slice_get entries i ≡ Some entry →
    tally ≡ tally_of (take i entries) →
    next ≡ tally_with tally entry →
    next ≡ tally_of (take (i + 1) entries)
tally-more entries i entry tally next at so_far is =
    let inside : i < length entries = slice_get_within entries i entry at in
    let here : get_or entries i entry ≡ entry = get_or_from_slice_get entries i entry entry at in
    let P : Entry → Type 0 = λ e. tally_with (tally_of (take i entries)) e ≡ tally_of (take (i + 1) entries) in
    is ∙ (ap (λ t. tally_with t entry) so_far ∙ subst P here (step inside))
  where
    step : i < length entries → tally_with (tally_of (take i entries)) (get_or entries i entry) ≡ tally_of (take (i + 1) entries)
    step inside =
        tally-same _ _ _ _ _ _ _ _ _ _
        (sym (sum_by_more (λ (e : Entry). cond (gives_bytes e.reply) 1 0) entries i entry inside))
        (sym (sum_by_more (λ (e : Entry). cond (is_done_write e.request e.reply) 1 0) entries i entry inside))
        (sym (sum_by_more (λ (e : Entry). length e.moves) entries i entry inside))
        (sym (sum_by_more (λ (e : Entry). cond (refuses e.reply) 1 0) entries i entry inside))
        (omega (arith, sum_by_more (λ (e : Entry). bytes_sum e.reply) entries i entry inside))

-- thirteen parts, joined from either end
joined-parts :
    (k a l b m c n d o e p f q : List ℕ) →
    k ++ (a ++ (l ++ (b ++ (m ++ (c ++ (n ++ (d ++ (o ++ (e ++ (p ++ (f ++ q)))))))))))
    ≡ k ++ a ++ l ++ b ++ m ++ c ++ n ++ d ++ o ++ e ++ p ++ f ++ q
joined-parts k a l b m c n d o e p f q = simp append_assoc refl

-- the parts of a tally's line
pub tally-line :
    (entries : ℕ) (tally : Tally) (a b c d e f : List ℕ) →
    a ≡ decimal entries → b ≡ decimal tally.reads → c ≡ decimal tally.writes → d ≡ decimal tally.moves → e ≡ decimal tally.refused → f ≡ decimal tally.sum →
    codes "entries " ++ (a ++ (codes " reads " ++ (b ++ (codes " writes " ++ (c ++ (codes " moves " ++ (d ++ (codes " refused " ++ (e ++ (codes " sum " ++ (f ++ codes "\n")))))))))))
    ≡ tally_text entries tally
tally-line entries tally a b c d e f p q r s t u =
    rw (p, q, r, s, t, u)
    (joined-parts (codes "entries ") (decimal entries) (codes " reads ") (decimal tally.reads) (codes " writes ") (decimal tally.writes)
    (codes " moves ") (decimal tally.moves) (codes " refused ") (decimal tally.refused) (codes " sum ") (decimal tally.sum) (codes "\n"))
