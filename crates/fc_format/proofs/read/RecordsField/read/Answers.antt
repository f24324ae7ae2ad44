use Rattle.std.proofs.Common.{◌≡◌, ℕ, suc, ◌+◌, ◌-◌, true, List, [], ◌∷◌, ◌++◌, length, sym, ap, ◌∙◌, arith}
use Rattle.std.proofs.lemmas.Result.{err_from_is_err_and}
use Rattle.std.specs.Prelude.{Err}
use Rattle.std.specs.Result.{is_ok}
use Rattle.fc_format.specs.Left.{Left}
use Rattle.fc_format.specs.Reading.{all_items}
use Rattle.fc_format.specs.Fields.{one_record, records}
use Rattle.fc_format.proofs.Steps.{behind, behind_none, none_first, some_first, all_done, all_left, all_more, all_stopped, bad_there, answers_as}
use Rattle.fc_format.proofs.read.RecordsField.read.Goals as goal

-- as many tries as there are bytes
tries : (s : Left) (bytes : List ℕ) → bytes ≡ s.bytes → records s ≡ all_items one_record (length bytes) s
unfolding records
tries s bytes e = ap (λ (k : ℕ). all_items one_record k s) (sym (ap length e))

pub loop-taken-init : goal.loop-taken-init
loop-taken-init c =
    behind_none (all_items one_record (length c.bytes-count.result.now) c.args.cursor.now)
    ∙ (ap (λ z. behind z (all_items one_record (length c.bytes-count.result.now) c.args.cursor.now)) (sym c.new-all.ensures.items)
    ∙ ap (λ (k : ℕ). behind c.new-all.result.items (all_items one_record k c.args.cursor.now)) (let e : length c.bytes-count.result.now ≡ length c.bytes-count.result.now - 0 = omega arith in e))

pub returns-in-None : goal.returns-in-None
returns-in-None c =
    tries c.args.cursor.now c.bytes-count.result.now c.bytes-count.ensures
    ∙ all_done one_record (length c.bytes-count.result.now) (length c.bytes-count.result.now - c.loop-taken.taken) c.args.cursor.now c.loop-taken.cursor c.loop-taken.all.items
    c.loop-taken.invariant (none_first c.loop-taken.cursor.bytes c.in-None.ensures.value)

pub loop-taken-preserved : goal.loop-taken-preserved
loop-taken-preserved c =
    let test = c.loop-taken-test.true in
    let e : length c.bytes-count.result.now - c.loop-taken.taken ≡ suc (length c.bytes-count.result.now - (c.loop-taken.taken + 1)) = omega (arith, test) in
    let done : is_ok c.push.result ≡ true = c.if-is_err.ensures.negation in
    let pushed : c.push.new.self.items ≡ c.loop-taken.all.items ++ c.in_ok-record-in-Some.record ∷ [] = rw done at c.push.ensures.items in
    all_more one_record (length c.bytes-count.result.now) (length c.bytes-count.result.now - (c.loop-taken.taken + 1)) c.args.cursor.now c.loop-taken.cursor c.read.new.cursor c.loop-taken.all.items c.in_ok-record-in-Some.record
    (c.loop-taken.invariant ∙ ap (λ (k : ℕ). behind c.loop-taken.all.items (all_items one_record k c.loop-taken.cursor)) e) (some_first c.loop-taken.cursor.bytes c.in-Some.field-0 c.in-Some.ensures.value) c.in_ok-record-in-Some.ensures
    ∙ ap (λ z. behind z (all_items one_record (length c.bytes-count.result.now - (c.loop-taken.taken + 1)) c.read.new.cursor)) (sym pushed)

pub returns-in_err-record-in-Some : goal.returns-in_err-record-in-Some
returns-in_err-record-in-Some c =
    let p = err_from_is_err_and c.from_residual.result c.from_residual.ensures.1 in
    let test = c.loop-taken-test.true in
    let e : length c.bytes-count.result.now - c.loop-taken.taken ≡ suc (length c.bytes-count.result.now - (c.loop-taken.taken + 1)) = omega (arith, test) in
    rw (p.1, p.2) (answers_as (records c.args.cursor.now) (all_items one_record (length c.bytes-count.result.now) c.args.cursor.now) (Err c.in_err-record-in-Some.field-0.0) c.read.new.cursor (tries c.args.cursor.now c.bytes-count.result.now c.bytes-count.ensures)
    (all_stopped one_record (length c.bytes-count.result.now) (length c.bytes-count.result.now - (c.loop-taken.taken + 1)) c.args.cursor.now c.loop-taken.cursor c.read.new.cursor c.loop-taken.all.items _
    (c.loop-taken.invariant ∙ ap (λ (k : ℕ). behind c.loop-taken.all.items (all_items one_record k c.loop-taken.cursor)) e) (some_first c.loop-taken.cursor.bytes c.in-Some.field-0 c.in-Some.ensures.value) c.in_err-record-in-Some.ensures))

pub returns-in-Some-first : goal.returns-in-Some-first
returns-in-Some-first c =
    let test = c.loop-taken-test.false in
    let e : length c.bytes-count.result.now - c.loop-taken.taken ≡ 0 = omega (arith, test) in
    bad_there (records c.args.cursor.now) c.loop-taken.cursor c.loop-taken.cursor c.damaged.result c.damaged.ensures
    (tries c.args.cursor.now c.bytes-count.result.now c.bytes-count.ensures
    ∙ all_left one_record (length c.bytes-count.result.now) c.args.cursor.now c.loop-taken.cursor c.loop-taken.all.items
    (c.loop-taken.invariant ∙ ap (λ (k : ℕ). behind c.loop-taken.all.items (all_items one_record k c.loop-taken.cursor)) e) (some_first c.loop-taken.cursor.bytes c.in-Some-first.field-0 c.in-Some-first.ensures.value))

pub returns-in-None-first : goal.returns-in-None-first
returns-in-None-first c =
    tries c.args.cursor.now c.bytes-count.result.now c.bytes-count.ensures
    ∙ all_done one_record (length c.bytes-count.result.now) (length c.bytes-count.result.now - c.loop-taken.taken) c.args.cursor.now c.loop-taken.cursor c.loop-taken.all.items
    c.loop-taken.invariant (none_first c.loop-taken.cursor.bytes c.in-None-first.ensures.value)
