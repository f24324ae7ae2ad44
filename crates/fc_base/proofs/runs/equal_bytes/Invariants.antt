use Rattle.std.proofs.Common.{◌≡◌, take, replicate}
use Rattle.fc_base.proofs.runs.equal_bytes.Given as goal

-- all bytes so far are equal
abbrev pub invariant-loop-next : goal.invariant-loop-next
invariant-loop-next l = record {
  counted : l.count ≡ l.next-index;
  equal : take l.next-index l.bytes ≡ replicate l.next-index l.byte;
}
