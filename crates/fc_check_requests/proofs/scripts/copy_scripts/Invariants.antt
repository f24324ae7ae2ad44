use Rattle.std.proofs.Common.{◌≡◌, take}
use Rattle.fc_check_requests.proofs.scripts.copy_scripts.Given as goal

-- those before this one are copied
abbrev pub invariant-loop-script : goal.invariant-loop-script
invariant-loop-script l = l.copy.items ≡ take l.script-index l.scripts
