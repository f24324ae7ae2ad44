use Rattle.std.proofs.Common.{◌≡◌, ◌∷◌, [], length, ap, sym, ◌∙◌, arith, length-append}
use Rattle.std.proofs.lemmas.Bool.{eqb-false, eqb-true}
use Rattle.fc_stands.specs.Store.{StoreView}
use Rattle.fc_store.proofs.StoreParts.{store_of_parts}
use Rattle.fc_actors.proofs.Gathering.{control_first, first_lane, all_kept, all_taken}
use Rattle.fc_actors.proofs.whole.gather.Goals as goal

pub take_lane-requires-clause-lanes : goal.take_lane-requires-clause-lanes
take_lane-requires-clause-lanes g c =
    let parts = c.loop-parts.parts in let long = parts.ok.0 in
    first_lane parts.items c.loop-parts.invariant.left c.loop-parts.invariant.are_lanes (λ none. eqb-false parts.len 0 (sym c.is_empty.ensures ∙ c.loop-parts-test.true) (long ∙ none))

pub loop-parts-smaller : goal.loop-parts-smaller
loop-parts-smaller g c =
    let parts = c.loop-parts.parts in let long = parts.ok.0 in
    let first = first_lane parts.items c.loop-parts.invariant.left c.loop-parts.invariant.are_lanes (λ none. eqb-false parts.len 0 (sym c.is_empty.ensures ∙ c.loop-parts-test.true) (long ∙ none)) in
    let taken = c.take_lane.ensures.taken first.0 first.1 first.2 in
    omega (arith, ap length first.2, ap length taken.0)

pub loop-parts-preserved : goal.loop-parts-preserved
loop-parts-preserved g c =
    let parts = c.loop-parts.parts in let lanes = c.loop-parts.lanes in let now = c.take_lane.new.lanes in let kept = c.loop-parts.invariant in let long = parts.ok.0 in
    let first = first_lane parts.items kept.left kept.are_lanes (λ none. eqb-false parts.len 0 (sym c.is_empty.ensures ∙ c.loop-parts-test.true) (long ∙ none)) in
    let taken = c.take_lane.ensures.taken first.0 first.1 first.2 in
    record {
      left = first.1;
      are_lanes = taken.0;
      kept = all_kept lanes.items now.items parts.items c.take_lane.new.parts.items c.remove.new.self.items first.0 first.1 first.2 taken.0 taken.1 kept.kept;
      room = omega (arith, kept.room, ap length first.2, ap length taken.0, ap length taken.1, length-append lanes.items (first.0 ∷ []), lanes.ok.0, now.ok.0, c.take_lane.ensures.lanes_room);
      parts_room = c.take_lane.ensures.parts_room ∙ kept.parts_room;
      lanes_room = c.take_lane.ensures.lanes_room ∙ kept.lanes_room;
    }

pub returns-clause-gathered : goal.returns-clause-gathered
returns-clause-gathered g c = λ s parts.
    let left = c.loop-parts.parts in let rest = c.remove.new.self.items in let none : length left.items ≡ 0 = sym left.ok.0 ∙ eqb-true left.len 0 (sym c.is_empty.ensures ∙ c.loop-parts-test.false) in
    let same = store_of_parts c.in-Control.control c.loop-parts.lanes.items rest s (control_first c.args.parts.now.items rest s c.remove.result c.in-Control.control parts c.remove.ensures.value c.remove.ensures.items c.in-Control.is) (all_taken c.loop-parts.lanes.items left.items rest none c.loop-parts.invariant.kept) in
    (ap (λ (st : StoreView). st.control) same, ap (λ (st : StoreView). st.lanes) same)
