use Rattle.std.proofs.Common.{◌≡◌, take}
use Rattle.fc_check_requests.proofs.requests.copy_items.Given as goal

-- the first so many are copied
abbrev pub invariant-loop-place : goal.invariant-loop-place
invariant-loop-place l = l.copy.items ≡ take l.place l.items.items
