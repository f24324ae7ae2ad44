use Rattle.std.proofs.Common.{◌≡◌, replicate}
use Rattle.fc_entry.specs.Picture.{zeros}
use Rattle.fc_check_picture.proofs.volume.zero_grains.Given as goal

-- so many so far
abbrev pub invariant-loop : goal.invariant-loop
invariant-loop g l = l.grains.items ≡ replicate l.counter (zeros l.size)
