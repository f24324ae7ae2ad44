-- So many digits more were tried: no number within the bounds has them.
use Rattle.std.proofs.Common.{◌≡◌, ◌+◌, ◌-◌}
use Rattle.fc_reading_notes.specs.Between.{is_begun, reaches}
use Rattle.fc_reading_notes.proofs.between.is_begun.Given as goal

abbrev pub invariant-loop : goal.invariant-loop
invariant-loop l = is_begun l.least l.most l.value ≡ reaches (l.most + 1 - l.counter) l.least l.most l.low l.high
