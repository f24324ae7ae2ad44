-- Room for events, done one after the other.
use Rattle.std.proofs.Common.{◌≡◌, ℕ, suc, ◌+◌, ◌≤◌, List, ◌∷◌, get_or, sym, subst, arith}
use Rattle.std.specs.List.{sum_by}
use Rattle.std.proofs.lemmas.List.Sums.{sum_by-cons}
use Rattle.fc_base.specs.declared.decision.LaneEvent.{LaneEvent}
use Rattle.fc_chain.specs.Chains.{Chains}
use Rattle.fc_events.specs.LaneGrains.{lane_grains}
use Rattle.fc_events.specs.Room.{slots_made, grains_come}
use Rattle.fc_chain.specs.Room.{HasRoomFor}

-- there is room for the first event
pub first_slots : (c : Chains) (e : LaneEvent) (es : List LaneEvent) → HasRoomFor c (e ∷ es) → slots_made e ≤ c.room
first_slots c e es has = let a : sum_by slots_made (e ∷ es) ≤ c.room = has.slots in omega (arith, sum_by-cons slots_made e es)

pub first_grains : (c : Chains) (e : LaneEvent) (es : List LaneEvent) → HasRoomFor c (e ∷ es) → grains_come (lane_grains c.lane c.lanes) e ≤ c.width
first_grains c e es has = has.grains 0 e (omega arith)

-- what the first event leaves of the room is enough for the others
pub room_left : (c d : Chains) (e : LaneEvent) (es : List LaneEvent) → HasRoomFor c (e ∷ es) → d.lane ≡ c.lane → d.lanes ≡ c.lanes → d.width ≡ c.width → c.room ≤ d.room + slots_made e → HasRoomFor d es
room_left c d e es has lane lanes width room = record {
  slots = (let a : sum_by slots_made (e ∷ es) ≤ c.room = has.slots in omega (arith, sum_by-cons slots_made e es));
  grains = λ k x lt. (let a : grains_come (lane_grains c.lane c.lanes) (get_or es k x) ≤ c.width = has.grains (suc k) x (omega arith) in
      subst (λ (z : ℕ). grains_come (lane_grains z d.lanes) (get_or es k x) ≤ d.width) (sym lane)
      (subst (λ (z : ℕ). grains_come (lane_grains c.lane z) (get_or es k x) ≤ d.width) (sym lanes)
      (subst (λ (z : ℕ). grains_come (lane_grains c.lane c.lanes) (get_or es k x) ≤ z) (sym width) a)));
}
