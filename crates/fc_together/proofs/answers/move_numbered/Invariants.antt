use Rattle.std.proofs.Common.{◌≡◌, ◌+◌, ◌≤◌, ◌++◌, length, map, vec_len, vec_capacity}
use Rattle.std.specs.Vec.Iter.{drain_items}
use Rattle.law_together.specs.Making.{with_number}
use Rattle.fc_together.proofs.answers.move_numbered.Given as goal

-- Those that are left come behind those that were moved.
abbrev pub invariant-loop-number : goal.invariant-loop-number
invariant-loop-number l = goal.iterator-loop-number.can_next l.number-iterator
    × goal.iterator-loop-number.is_finite l.number-iterator
    × (l.entries.items ++ map with_number (drain_items l.number-iterator) ≡ l.fn.entries.items ++ map with_number (drain_items l.initial.number-iterator))
    × (vec_len l.entries + length (drain_items l.number-iterator) ≤ vec_capacity l.entries)
