use Rattle.std.proofs.Common.{◌≡◌, drop}
use Rattle.fc_entry.specs.PlainStep.{source_in}
use Rattle.fc_plain.proofs.effect.source_of.Given as goal

-- none of the pairs so far has this target
abbrev pub invariant-loop-pair : goal.invariant-loop-pair
invariant-loop-pair l = source_in (drop l.pair-index l.pairs) l.target ≡ source_in l.pairs l.target
