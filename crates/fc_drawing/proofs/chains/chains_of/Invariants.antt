use Rattle.std.proofs.Common.{◌≡◌, map, take}
use Rattle.fc_drawing.specs.Chains.{chain_at}
use Rattle.fc_drawing.proofs.chains.chains_of.Given as goal

-- the chains so far
abbrev pub invariant-loop-place : goal.invariant-loop-place
invariant-loop-place l = l.chains.items ≡ map (chain_at l.sheet.slots) (take l.place-index l.place-items)
