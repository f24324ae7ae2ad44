use Rattle.std.proofs.Common.{◌≡◌, ◌-◌}
use Rattle.fc_format.specs.Reading.{items}
use Rattle.fc_format.proofs.Steps.{behind}
use Rattle.fc_format.proofs.field.take_items.Given as goal

-- the items so far are taken
abbrev pub invariant-loop-taken : goal.invariant-loop-taken
invariant-loop-taken g l = items g.T.Field.reading l.count l.initial.cursor ≡ behind l.all.items (items g.T.Field.reading (l.count - l.taken) l.cursor)
