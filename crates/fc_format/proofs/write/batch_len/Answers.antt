use Rattle.std.proofs.Common.{ℕ, ◌+◌, ◌-◌, ◌^◌, min, length, ap, sym, ◌∙◌, arith}
use Rattle.std.proofs.Math.Seq.{take_all}
use Rattle.fc_format.specs.Bytes.{records_bytes}
use Rattle.fc_format.proofs.Puts.{batch_long}
use Rattle.fc_format.proofs.write.batch_len.Goals as goal

pub returns : goal.returns
returns c =
    let e = take_all c.loop-record.record-index c.args.records.now (let f = c.loop-record-test.false in omega (arith, f)) in
    c.loop-record.invariant ∙ ap (λ (n : ℕ). min n (2 ^ 64 - 1)) (ap (λ z. 5 + length (records_bytes z)) e ∙ sym (batch_long c.args.records.now))
