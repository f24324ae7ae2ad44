use Rattle.std.proofs.Common.{◌≡◌, length, take}
use Rattle.fc_check_same.proofs.same.all_same.Given as goal

abbrev pub invariant-loop-item : goal.invariant-loop-item
invariant-loop-item g l = (length l.items ≡ length l.others) × (take (length l.yielded) l.items ≡ take (length l.yielded) l.others)
