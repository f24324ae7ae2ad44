use Rattle.std.proofs.Common.{◌≡◌, take}
use Rattle.std.specs.List.{fold}
use Rattle.fc_image.specs.Records.{held_after}
use Rattle.fc_image.proofs.apply.MetaSlotRow.applied.Given as goal

-- the grains with the records so far applied
abbrev pub invariant-loop-record : goal.invariant-loop-record
invariant-loop-record l = l.held ≡ fold (held_after l.self.volume l.self.live) l.self.held (take l.record-index l.records)
