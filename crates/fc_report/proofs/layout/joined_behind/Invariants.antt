-- The texts before this one.
use Rattle.std.proofs.Common.{◌≡◌, ◌++◌, ◌∷◌, take}
use Rattle.std.specs.List.{flat_map}
use Rattle.fc_report.proofs.layout.joined_behind.Given as goal

abbrev pub invariant-loop-text : goal.invariant-loop-text
invariant-loop-text l = l.line.items ≡ l.first ++ flat_map (λ text. l.delim ∷ text) (take l.text-index l.next)
