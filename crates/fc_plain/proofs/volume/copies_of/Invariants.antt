use Rattle.std.proofs.Common.{◌≡◌, take}
use Rattle.fc_plain.proofs.volume.copies_of.Given as goal

-- the grains so far
abbrev pub invariant-loop-grain : goal.invariant-loop-grain
invariant-loop-grain l = l.copies.items ≡ take l.grain-index l.grains
