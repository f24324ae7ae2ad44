use Rattle.std.proofs.Common.{◌≡◌, take}
use Rattle.std.specs.List.{flat_map}
use Rattle.fc_kept.specs.Images.{slots_in, tables_in}
use Rattle.fc_recovery_text.proofs.sheet.sheet_of.Given as goal

-- the slots of the chains so far
abbrev pub invariant-loop-chain : goal.invariant-loop-chain
invariant-loop-chain l = l.slots.items ≡ flat_map (slots_in (tables_in l.image)) (take l.chain-index l.image.chains)
