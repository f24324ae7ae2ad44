use Rattle.std.proofs.Common.{◌≡◌, ℕ, suc, ◌+◌, ◌-◌, true, false, List, ◌++◌, length, sym, ap, ◌∙◌, arith}
use Rattle.std.proofs.lemmas.Result.{err_from_is_err_and}
use Rattle.std.proofs.lemmas.Bool.Decides.{nat_tests}
use Rattle.std.specs.Prelude.{Err, eqb}
use Rattle.std.specs.Result.{is_ok}
use Rattle.fc_format.specs.Left.{Left}
use Rattle.fc_format.specs.Halves.{batches, batches_up_to}
use Rattle.fc_format.proofs.Steps.{behind, behind_none, bad_there, answers_as}
use Rattle.fc_format.proofs.Batches.{up_none, up_left, up_closed, up_more, up_stopped}
use Rattle.fc_format.proofs.read.take_batches.Goals as goal

-- as many tries as there are bytes
tries : (s : Left) (bytes : List ℕ) → bytes ≡ s.bytes → batches s ≡ batches_up_to (length bytes) s
tries s bytes e = ap (λ (k : ℕ). batches_up_to k s) (sym (ap length e))

pub loop-taken-init : goal.loop-taken-init
loop-taken-init c =
    behind_none (batches_up_to (length c.bytes-count.result.now) c.args.cursor.now)
    ∙ (ap (λ z. behind z (batches_up_to (length c.bytes-count.result.now) c.args.cursor.now)) (sym c.new-all.ensures.items)
    ∙ ap (λ (k : ℕ). behind c.new-all.result.items (batches_up_to k c.args.cursor.now)) (let e : length c.bytes-count.result.now ≡ length c.bytes-count.result.now - 0 = omega arith in e))

pub returns-in-None : goal.returns-in-None
returns-in-None c =
    bad_there (batches c.args.cursor.now) c.loop-taken.cursor c.loop-taken.cursor c.damaged.result c.damaged.ensures
    (tries c.args.cursor.now c.bytes-count.result.now c.bytes-count.ensures
    ∙ up_none (length c.bytes-count.result.now) c.args.cursor.now c.loop-taken.cursor c.loop-taken.all.items (length c.bytes-count.result.now - c.loop-taken.taken) c.loop-taken.invariant c.in-None.ensures.value)

pub returns : goal.returns
returns c =
    let test = c.loop-taken-test.false in
    let e : length c.bytes-count.result.now - c.loop-taken.taken ≡ 0 = omega (arith, test) in
    bad_there (batches c.args.cursor.now) c.loop-taken.cursor c.loop-taken.cursor c.damaged-2.result c.damaged-2.ensures
    (tries c.args.cursor.now c.bytes-count.result.now c.bytes-count.ensures
    ∙ up_left (length c.bytes-count.result.now) c.args.cursor.now c.loop-taken.cursor c.loop-taken.all.items (c.loop-taken.invariant ∙ ap (λ (k : ℕ). behind c.loop-taken.all.items (batches_up_to k c.loop-taken.cursor)) e))

pub returns-then-gate-ne1 : goal.returns-then-gate-ne1
returns-then-gate-ne1 c =
    let test = c.loop-taken-test.true in
    let other = c.if-gate-ne1.true in
    let e : length c.bytes-count.result.now - c.loop-taken.taken ≡ suc (length c.bytes-count.result.now - (c.loop-taken.taken + 1)) = omega (arith, test) in
    let shut : eqb c.in-Some.gate 1 ≡ false = grind (arith, nat_tests, other) in
    tries c.args.cursor.now c.bytes-count.result.now c.bytes-count.ensures
    ∙ up_closed (length c.bytes-count.result.now) c.args.cursor.now c.loop-taken.cursor c.loop-taken.all.items (length c.bytes-count.result.now - (c.loop-taken.taken + 1)) c.in-Some.gate c.skip.new.self
    (c.loop-taken.invariant ∙ ap (λ (k : ℕ). behind c.loop-taken.all.items (batches_up_to k c.loop-taken.cursor)) e) c.in-Some.ensures.value shut c.skip.ensures

pub returns-in_err-records-in-Some : goal.returns-in_err-records-in-Some
returns-in_err-records-in-Some c =
    let p = err_from_is_err_and c.from_residual.result c.from_residual.ensures.1 in
    let test = c.loop-taken-test.true in
    let one = c.if-gate-ne1.false in
    let e : length c.bytes-count.result.now - c.loop-taken.taken ≡ suc (length c.bytes-count.result.now - (c.loop-taken.taken + 1)) = omega (arith, test) in
    let wide : eqb c.in-Some.gate 1 ≡ true = grind (arith, nat_tests, one) in
    rw (p.1, p.2) (answers_as (batches c.args.cursor.now) (batches_up_to (length c.bytes-count.result.now) c.args.cursor.now) (Err c.in_err-records-in-Some.field-0.0) c.take_counted.new.cursor
    (tries c.args.cursor.now c.bytes-count.result.now c.bytes-count.ensures)
    (up_stopped (length c.bytes-count.result.now) c.args.cursor.now c.loop-taken.cursor c.loop-taken.all.items (length c.bytes-count.result.now - (c.loop-taken.taken + 1)) c.in-Some.gate c.skip.new.self c.take_counted.new.cursor _
    (c.loop-taken.invariant ∙ ap (λ (k : ℕ). behind c.loop-taken.all.items (batches_up_to k c.loop-taken.cursor)) e) c.in-Some.ensures.value wide c.skip.ensures c.in_err-records-in-Some.ensures))

pub loop-taken-preserved : goal.loop-taken-preserved
loop-taken-preserved c =
    let test = c.loop-taken-test.true in
    let one = c.if-gate-ne1.false in
    let e : length c.bytes-count.result.now - c.loop-taken.taken ≡ suc (length c.bytes-count.result.now - (c.loop-taken.taken + 1)) = omega (arith, test) in
    let wide : eqb c.in-Some.gate 1 ≡ true = grind (arith, nat_tests, one) in
    let done : is_ok c.extend_from_slice.result ≡ true = c.if-is_err.ensures.negation in
    let grown : c.extend_from_slice.new.self.items ≡ c.loop-taken.all.items ++ c.deref.result.now = rw done at c.extend_from_slice.ensures.items in
    let pushed : c.extend_from_slice.new.self.items ≡ c.loop-taken.all.items ++ c.in_ok-records-in-Some.records = grown ∙ ap (λ z. c.loop-taken.all.items ++ z) (c.deref.ensures.value ∙ c.records.view_is) in
    up_more (length c.bytes-count.result.now) c.args.cursor.now c.loop-taken.cursor c.loop-taken.all.items (length c.bytes-count.result.now - (c.loop-taken.taken + 1)) c.in-Some.gate c.skip.new.self c.take_counted.new.cursor c.in_ok-records-in-Some.records
    (c.loop-taken.invariant ∙ ap (λ (k : ℕ). behind c.loop-taken.all.items (batches_up_to k c.loop-taken.cursor)) e) c.in-Some.ensures.value wide c.skip.ensures c.in_ok-records-in-Some.ensures
    ∙ ap (λ z. behind z (batches_up_to (length c.bytes-count.result.now - (c.loop-taken.taken + 1)) c.take_counted.new.cursor)) (sym pushed)
