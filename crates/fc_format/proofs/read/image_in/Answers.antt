use Rattle.std.proofs.Common.{◌≡◌, ℕ, ◌+◌, ◌≤◌, List, length, sym, ap, ◌∙◌, arith}
use Rattle.std.proofs.lemmas.Result.{err_from_is_err_and}
use Rattle.fc_image.specs.declared.record.MetaRecord.{MetaRecord}
use Rattle.fc_image.specs.declared.image.MetaImage.{MetaImage}
use Rattle.fc_image.specs.Records.{after_records}
use Rattle.fc_format.specs.Left.{Left}
use Rattle.fc_format.specs.Reading.{Got, counted}
use Rattle.fc_format.specs.Fields.{image}
use Rattle.fc_format.specs.Halves.{batches}
use Rattle.fc_format.proofs.Batches.{counted_shrinks, shrunk, gated, gate_left}
use Rattle.fc_format.proofs.HalfReads.{half_fails, image_fails, batches_fail, both_read}
use Rattle.fc_format.proofs.read.image_in.Goals as goal

-- the closed gate is behind what is left
fewer : (bytes left : List ℕ) (end : ℕ) (s t u : Left) (i : MetaImage) (rs : List MetaRecord) → s ≡ record { bytes = bytes; end = end } → counted image s ≡ Got i t → batches t ≡ Got rs u → left ≡ u.bytes
    → length left + 1 ≤ length bytes
fewer bytes left end s t u i rs e h k is =
    let a = shrunk (counted image s) (length s.bytes) i t (counted_shrinks image s) h in
    let b = gate_left (batches t) (length t.bytes) rs u (gated (length t.bytes) t.bytes t.end) k in
    let l = ap (λ (x : Left). length x.bytes) e in
    let m = ap length is in
    omega (arith, a, b, l, m)

pub returns-in_err-image : goal.returns-in_err-image
returns-in_err-image c =
    let p = err_from_is_err_and c.from_residual.result c.from_residual.ensures.1 in
    rw (p.1, p.2) (half_fails c.args.bytes.now c.args.end (counted image c.new-cursor.result) c.in_err-image.field-0.0 c.take_counted.new.cursor
    (image_fails c.new-cursor.result (record { bytes = c.args.bytes.now; end = c.args.end }) c.new-cursor.ensures) c.in_err-image.ensures)

pub returns-in_err-records : goal.returns-in_err-records
returns-in_err-records c =
    let p = err_from_is_err_and c.from_residual-in_err-records.result c.from_residual-in_err-records.ensures.1 in
    rw (p.1, p.2) (half_fails c.args.bytes.now c.args.end (batches c.take_counted.new.cursor) c.in_err-records.field-0.0 c.take_batches.new.cursor
    (batches_fail c.new-cursor.result (record { bytes = c.args.bytes.now; end = c.args.end }) c.new-cursor.ensures c.in_ok-image.image c.take_counted.new.cursor c.in_ok-image.ensures) c.in_err-records.ensures)

pub overflow_sub-closed : goal.overflow_sub-closed
overflow_sub-closed c =
    let f = fewer c.args.bytes.now c.bytes-left.result.now c.args.end c.new-cursor.result c.take_counted.new.cursor c.take_batches.new.cursor c.in_ok-image.image c.in_ok-records.records.items
    c.new-cursor.ensures c.in_ok-image.ensures c.in_ok-records.ensures c.bytes-left.ensures in
    omega (arith, f)

pub overflow_sub-closed-2 : goal.overflow_sub-closed-2
overflow_sub-closed-2 c =
    let f = fewer c.args.bytes.now c.bytes-left.result.now c.args.end c.new-cursor.result c.take_counted.new.cursor c.take_batches.new.cursor c.in_ok-image.image c.in_ok-records.records.items
    c.new-cursor.ensures c.in_ok-image.ensures c.in_ok-records.ensures c.bytes-left.ensures in
    omega (arith, f)

pub returns-in-Ok : goal.returns-in-Ok
returns-in-Ok c =
    let f = fewer c.args.bytes.now c.bytes-left.result.now c.args.end c.new-cursor.result c.take_counted.new.cursor c.take_batches.new.cursor c.in_ok-image.image c.in_ok-records.records.items
    c.new-cursor.ensures c.in_ok-image.ensures c.in_ok-records.ensures c.bytes-left.ensures in
    let m = ap length c.bytes-left.ensures in
    let is : c.in-Ok.image ≡ after_records c.in_ok-image.image c.in_ok-records.records.items = c.in-Ok.ensures ∙ ap (after_records c.in_ok-image.image) c.deref.ensures.value in
    let read = both_read c.new-cursor.result (record { bytes = c.args.bytes.now; end = c.args.end }) c.new-cursor.ensures c.in_ok-image.image c.in_ok-records.records.items c.take_counted.new.cursor c.take_batches.new.cursor c.in_ok-image.ensures c.in_ok-records.ensures in
    (c.take_batches.new.cursor, read ∙ ap (λ (z : MetaImage). Got z c.take_batches.new.cursor) (sym is), omega (arith, f, m))
