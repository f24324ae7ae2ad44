use Rattle.std.proofs.Common.{◌≡◌, ◌++◌, map, take}
use Rattle.fc_kept.specs.Images.{slot_in, tables_in}
use Rattle.fc_recovery_text.proofs.sheet.put_slots.Given as goal

-- the slots so far
abbrev pub invariant-loop-slot : goal.invariant-loop-slot
invariant-loop-slot l = l.slots.items ≡ l.fn.slots.items ++ map (slot_in (tables_in l.image) l.chain.label) (take l.slot-index l.chain.slots)
