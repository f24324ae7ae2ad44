use Rattle.std.proofs.Common.{◌≡◌, drop}
use Rattle.std.specs.List.{flat_map}
use Rattle.fc_base.specs.Tables.{Tables}
use Rattle.fc_kept.specs.Images.{slots_in}
use Rattle.fc_recovered.specs.Walk.{chain_with}
use Rattle.fc_recovered.proofs.chains.chain_with.Given as goal

-- the volume's live slot is in none of the chains so far
abbrev pub invariant-loop-chain : goal.invariant-loop-chain
invariant-loop-chain l =
    (t : Tables) → chain_with l.volume.0 (flat_map (slots_in t) (drop l.chain-index l.chains)) ≡ chain_with l.volume.0 (flat_map (slots_in t) l.chains)
