use Rattle.std.proofs.Common.{◌≡◌, ◌+◌, ◌≤◌, ◌++◌, length, vec_len, vec_capacity}
use Rattle.fc_grains.proofs.queues.append_queue.Given as goal

abbrev pub invariant-loop-disk : goal.invariant-loop-disk
invariant-loop-disk g l = record {
  items : l.into.items ++ l.queue.items ≡ l.fn.into.items ++ l.fn.queue.items;
  room : vec_len l.into + length l.queue.items ≤ vec_capacity l.into;
  grown : vec_capacity l.fn.into ≤ vec_capacity l.into;
}

abbrev pub decreases-loop-disk : goal.decreases-loop-disk
decreases-loop-disk g l = length l.queue.items
