use Rattle.std.proofs.Common.{◌∙◌, ◌∷◌, ◌++◌, List, length, ap, sym, arith}
use Rattle.fc_lane.specs.Lane.{LaneView}
use Rattle.fc_store.specs.StoreParts.{lane_parts}
use Rattle.fc_store.specs.declared.store_part.StorePart.{StorePart}
use Rattle.fc_store.proofs.StoreParts.{lane_taken, lanes_left, no_control}
use Rattle.fc_store.proofs.store_part.take_lanes.Goals as goal

pub unreachable-requires : goal.unreachable-requires
unreachable-requires g c =
    no_control
    c.in_default-part.field-0
    c.pop_front.new.self.items
    c.loop-part.invariant.rest
    (ap (λ (p : StorePart g.row.D.Denot). p ∷ c.pop_front.new.self.items) (sym c.in_default-part.is) ∙ sym c.in-Some.ensures.items ∙ c.loop-part.invariant.are_lanes)

pub loop-part-preserved : goal.loop-part-preserved
loop-part-preserved g c =
    let rest : List (StorePart g.row.D.Denot) = c.pop_front.new.self.items in
    let left = lanes_left c.in-Some.part rest c.loop-part.invariant.rest (sym c.in-Some.ensures.items ∙ c.loop-part.invariant.are_lanes) in
    record {
      rest = left.0;
      are_lanes = left.1;
      kept =
          ap (λ (ls : List LaneView). lane_parts ls ++ rest) c.push_reserved.ensures.items
          ∙ lane_taken c.loop-part.lanes.items c.in-Lane.lane rest
          ∙ ap (λ (p : StorePart g.row.D.Denot). lane_parts c.loop-part.lanes.items ++ p ∷ rest) (sym c.in-Lane.is)
          ∙ ap (λ (ps : List (StorePart g.row.D.Denot)). lane_parts c.loop-part.lanes.items ++ ps) (sym c.in-Some.ensures.items)
          ∙ c.loop-part.invariant.kept;
      room = omega (arith, c.loop-part.invariant.room, ap length c.in-Some.ensures.items, c.push_reserved.ensures.len, c.push_reserved.ensures.capacity);
    }
