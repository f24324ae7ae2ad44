use Rattle.std.proofs.Common.{ℕ, ◌<◌}
use Rattle.fc_places.specs.Indexing.{FitsAt}
use Rattle.fc_places.proofs.mend.all_fit.Given as goal

-- the entries so far fit
abbrev pub invariant-loop-at : goal.invariant-loop-at
invariant-loop-at l = (i : ℕ) → i < l.at → FitsAt l.slots l.by l.entries i
