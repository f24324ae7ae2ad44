use Rattle.std.proofs.Common.{◌≡◌, None, All, drop}
use Rattle.std.specs.List.{flat_map}
use Rattle.fc_base.specs.Tables.{Tables}
use Rattle.fc_kept.specs.Images.{slots_in}
use Rattle.fc_kept.specs.Sound.{HasTidySlots}
use Rattle.fc_recovered.specs.Walk.{walked, id_number}
use Rattle.fc_recovered.proofs.chains.walk_all.Given as goal

-- the walk from here on is the whole one
abbrev pub invariant-loop-chain : goal.invariant-loop-chain
invariant-loop-chain l =
    (t : Tables) → All (HasTidySlots t) l.chains →
    walked l.volume.0 l.grain l.label (flat_map (slots_in t) (drop l.chain-index l.chains)) (id_number l.seen)
    ≡ walked l.volume.0 l.grain l.label (flat_map (slots_in t) l.chains) None
