use Rattle.std.proofs.Common.{◌≡◌, ◌+◌, ◌≤◌, drop, fold}
use Rattle.fc_base.specs.SheetStep.{started_empty}
use Rattle.fc_events.proofs.events.trigger.Given as goal

-- what is left to do leads to the same sheet
abbrev pub invariant-loop-pair : goal.invariant-loop-pair
invariant-loop-pair l = record {
  rest : fold started_empty l.table.sheet (drop l.pair-index l.pairs) ≡ fold started_empty l.fn.table.sheet l.pairs;
  room : l.fn.table.room ≤ l.table.room + l.pair-index;
  width : l.table.width ≡ l.fn.table.width;
}
