use Rattle.std.proofs.Common.{◌≡◌, ◌+◌, ◌≤◌, ◌++◌, length, map, vec_len, vec_capacity}
use Rattle.std.specs.Vec.Iter.{drain_items}
use Rattle.law_together.specs.Making.{own_of}
use Rattle.fc_together.specs.Answers.{makings_of}
use Rattle.fc_together.proofs.answers.own_lists.Given as goal

-- What is left of the answers comes behind the lists so far.
abbrev pub invariant-loop-answered : goal.invariant-loop-answered
invariant-loop-answered g l = (goal.iterator-loop-answered g).can_next l.answered-iterator
    × (goal.iterator-loop-answered g).is_finite l.answered-iterator
    × (l.lists.items ++ map own_of (makings_of (drain_items l.answered-iterator)) ≡ map own_of (makings_of (drain_items l.initial.answered-iterator)))
    × (vec_len l.lists + length (drain_items l.answered-iterator) ≤ vec_capacity l.lists)
