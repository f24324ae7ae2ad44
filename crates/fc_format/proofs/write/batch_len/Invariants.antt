use Rattle.std.proofs.Common.{◌≡◌, ◌+◌, ◌-◌, ◌^◌, min, take, length}
use Rattle.fc_format.specs.Bytes.{records_bytes}
use Rattle.fc_format.proofs.write.batch_len.Given as goal

-- the records so far are counted
abbrev pub invariant-loop-record : goal.invariant-loop-record
invariant-loop-record l = l.all ≡ min (5 + length (records_bytes (take l.record-index l.records))) (2 ^ 64 - 1)
