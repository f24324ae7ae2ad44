use Rattle.std.proofs.Common.{◌≡◌, ◌++◌, take, drop, length}
use Rattle.fc_books.specs.After.{of_length}
use Rattle.model_slots.proofs.slot.set_marks.Given as goal

-- the marks so far are those of the set, the others as they were
abbrev pub invariant-loop-place : goal.invariant-loop-place
invariant-loop-place l = l.marks ≡ take l.place (of_length (length l.initial.marks) l.set) ++ drop l.place l.initial.marks
