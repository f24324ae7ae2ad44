use Rattle.std.proofs.Common.{◌≡◌, ◌-◌}
use Rattle.fc_format.specs.Reading.{all_items}
use Rattle.fc_format.specs.Fields.{one_record}
use Rattle.fc_format.proofs.Steps.{behind}
use Rattle.fc_format.proofs.read.RecordsField.read.Given as goal

-- the records so far are taken
abbrev pub invariant-loop-taken : goal.invariant-loop-taken
invariant-loop-taken l = all_items one_record l.count l.initial.cursor ≡ behind l.all.items (all_items one_record (l.count - l.taken) l.cursor)
