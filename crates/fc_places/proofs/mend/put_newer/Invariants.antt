use Rattle.std.proofs.Common.{◌≤◌, vec_capacity}
use Rattle.fc_places.proofs.mend.put_newer.Given as goal

abbrev pub invariant-loop-place : goal.invariant-loop-place
invariant-loop-place l = vec_capacity l.initial.entries ≤ vec_capacity l.entries
