-- The lines before this one.
use Rattle.std.proofs.Common.{◌≡◌, take}
use Rattle.fc_report.specs.Beside.{beside}
use Rattle.fc_report.proofs.layout.beside.Given as goal

abbrev pub invariant-loop-place : goal.invariant-loop-place
invariant-loop-place l = l.lines ≡ beside l.between (take l.place l.headings) (take l.place l.fields)
