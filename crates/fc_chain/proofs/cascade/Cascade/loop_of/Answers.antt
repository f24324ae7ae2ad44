use Rattle.std.proofs.Common.{List, sym, subst}
use Rattle.fc_base.specs.Sheet.{Slot, shape_of}
use Rattle.fc_base.specs.SheetStep.{triggered}
use Rattle.fc_base.specs.SheetView.{LoopAnswer}
use Rattle.fc_loops.specs.declared.rows.Row.{Row}
use Rattle.fc_slots.specs.Contiguous.{IsContiguous}
use Rattle.fc_loops.specs.Joins.{AreTogether}
use Rattle.fc_loops.specs.Rows.{rows_of, row_shape}
use Rattle.fc_events.proofs.Together.{triggered_together}
use Rattle.fc_loops.proofs.LoopRows.{tried, rows_together, edge_of_slots, edge_of_rows}
use Rattle.fc_loops.proofs.LoopTold.{answer_same}
use Rattle.fc_chain.proofs.cascade.Cascade.loop_of.Goals as goal

pub loop_of_rows-requires : goal.loop_of_rows-requires
loop_of_rows-requires c =
    let same = tried c.args.self.now.sheet c.args.pairs.now c.slots.result.now c.in_ok-rows.rows.items c.trigger_rows.new.rows.items c.deref.result.now c.slots.ensures.value c.in_ok-rows.ensures c.in_ok-trigger_rows.ensures c.deref.ensures.value in
    let whole = subst (λ (z : List Slot). IsContiguous z) c.slots.ensures.value c.slots.ensures.together in
    subst (λ (z : List Row). AreTogether z) (sym same) (rows_together (triggered c.args.pairs.now c.args.self.now.sheet).slots (triggered_together c.args.pairs.now c.args.self.now.sheet whole))

pub returns-in-Ok : goal.returns-in-Ok
returns-in-Ok c =
    let same = tried c.args.self.now.sheet c.args.pairs.now c.slots.result.now c.in_ok-rows.rows.items c.trigger_rows.new.rows.items c.deref.result.now c.slots.ensures.value c.in_ok-rows.ensures c.in_ok-trigger_rows.ensures c.deref.ensures.value in
    answer_same (row_shape (rows_of (triggered c.args.pairs.now c.args.self.now.sheet).slots)) (shape_of (triggered c.args.pairs.now c.args.self.now.sheet).slots)
    (edge_of_slots (triggered c.args.pairs.now c.args.self.now.sheet).slots) (edge_of_rows (triggered c.args.pairs.now c.args.self.now.sheet).slots) c.in-Ok.found
    (subst (λ (z : List Row). LoopAnswer (row_shape z) c.in-Ok.found) same c.in-Ok.ensures)
