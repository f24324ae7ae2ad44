-- The texts before this one.
use Rattle.std.proofs.Common.{◌≡◌, map, take}
use Rattle.fc_report.proofs.fields.row_of.Given as goal

abbrev pub invariant-loop-text : goal.invariant-loop-text
invariant-loop-text l = l.row ≡ map (λ text. text.now) (take l.text-index l.texts)
