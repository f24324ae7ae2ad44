use Rattle.std.proofs.Common.{◌≡◌, take}
use Rattle.std.specs.List.{fold}
use Rattle.fc_image.specs.Records.{changed_after}
use Rattle.fc_image.proofs.apply.MetaChangesRow.applied.Given as goal

-- the grains with the records so far applied
abbrev pub invariant-loop-record : goal.invariant-loop-record
invariant-loop-record l = l.changed ≡ fold (changed_after l.mappings l.self.map) l.self.changed (take l.record-index l.records)
