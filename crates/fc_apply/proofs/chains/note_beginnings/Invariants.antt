use Rattle.std.proofs.Common.{◌≡◌, List, drop}
use Rattle.fc_base.specs.Sheet.{Slot}
use Rattle.fc_apply.specs.Events.{new_rows}
use Rattle.fc_apply.proofs.Noting.{BeginsRest}
use Rattle.fc_apply.proofs.chains.note_beginnings.Given as goal

-- the pairs before this one have begun
abbrev pub invariant-loop-pair : goal.invariant-loop-pair
invariant-loop-pair l = (slots : List Slot) → l.initial.changes.ready ≡ new_rows slots l.initial.changes.rows l.pairs → BeginsRest slots l.initial.changes l.pairs l.changes (drop l.pair-index l.pairs)
