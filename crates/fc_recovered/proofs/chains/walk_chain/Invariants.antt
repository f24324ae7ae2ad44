use Rattle.std.proofs.Common.{◌≡◌, ◌++◌, List, map, drop}
use Rattle.fc_base.specs.Sheet.{Slot}
use Rattle.fc_base.specs.Tables.{Tables}
use Rattle.fc_kept.specs.Images.{slot_in}
use Rattle.fc_kept.specs.Sound.{HasTidySlots}
use Rattle.fc_recovered.specs.Walk.{walked, id_number}
use Rattle.fc_recovered.proofs.chains.walk_chain.Given as goal

-- the walk from here on is the whole one
abbrev pub invariant-loop-slot : goal.invariant-loop-slot
invariant-loop-slot l =
    (t : Tables) (rest : List Slot) → HasTidySlots t l.chain →
    walked l.volume.0 l.grain l.label (map (slot_in t l.chain.label) (drop l.slot-index l.chain.slots) ++ rest) (id_number l.seen)
    ≡ walked l.volume.0 l.grain l.label (map (slot_in t l.chain.label) l.chain.slots ++ rest) (id_number l.fn.seen)
