use Rattle.std.proofs.Common.{◌≡◌, take}
use Rattle.std.specs.List.{fold}
use Rattle.fc_image.specs.Records.{lost_after}
use Rattle.fc_image.proofs.apply.MetaLostRow.applied.Given as goal

-- the grains with the records so far applied
abbrev pub invariant-loop-record : goal.invariant-loop-record
invariant-loop-record l = l.lost ≡ fold (lost_after l.self.volume) l.self.lost (take l.record-index l.records)
