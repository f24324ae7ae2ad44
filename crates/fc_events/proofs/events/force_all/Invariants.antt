use Rattle.std.proofs.Common.{◌≡◌, ◌+◌, ◌≤◌, drop, fold}
use Rattle.fc_base.specs.SheetStep.{forced_map}
use Rattle.fc_events.proofs.events.force_all.Given as goal

-- what is left to do leads to the same sheet
abbrev pub invariant-loop-map : goal.invariant-loop-map
invariant-loop-map l = record {
  rest : fold forced_map l.table.sheet (drop l.map-index l.maps) ≡ fold forced_map l.fn.table.sheet l.maps;
  room : l.fn.table.room ≤ l.table.room + l.map-index;
  width : l.table.width ≡ l.fn.table.width;
}
