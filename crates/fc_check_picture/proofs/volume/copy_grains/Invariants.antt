use Rattle.std.proofs.Common.{◌≡◌, take}
use Rattle.fc_check_picture.proofs.volume.copy_grains.Given as goal

-- the grains so far
abbrev pub invariant-loop-grain : goal.invariant-loop-grain
invariant-loop-grain g l = l.copy.items ≡ take l.grain-index l.grains
