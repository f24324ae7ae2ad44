use Rattle.std.proofs.Common.{◌≡◌, take}
use Rattle.fc_check_requests.proofs.copies.copy_names.Given as goal

-- those before this one are copied
abbrev pub invariant-loop-name : goal.invariant-loop-name
invariant-loop-name l = l.copy.items ≡ take l.name-index l.names
