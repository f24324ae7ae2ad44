use Rattle.std.proofs.Common.{◌≡◌, take}
use Rattle.fc_check_requests.proofs.copies.copy_actor.Given as goal

-- those before this one are copied
abbrev pub invariant-loop-line : goal.invariant-loop-line
invariant-loop-line l = l.lines ≡ take l.line-index l.actor.lines
