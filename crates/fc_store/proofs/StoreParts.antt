-- Lanes, taken one after the other from the front of parts.
use Rattle.std.proofs.Common.{◌≡◌, ◌∷◌, ◌++◌, [], List, ap, ap₂, refl, ◌∙◌, arith}
use Rattle.fc_control.specs.Control.{ControlState}
use Rattle.fc_lane.specs.Lane.{LaneView}
use Rattle.fc_stands.specs.Store.{StoreView}
use Rattle.fc_store.specs.StoreParts.{lane_parts, parts_view}
use Rattle.fc_store.specs.declared.store_part.StorePart.{StorePart}
use Rattle.fc_store.specs.declared.store_part.StorePart.TheVariants.{Control, Lane}

-- Where all parts are lanes, the first is not the control part,
pub no_control : {D : Type 0} (c : ControlState) (rest : List (StorePart D)) (ls : List LaneView) → Control c ∷ rest ≡ lane_parts ls → ⊥
no_control c rest [] e = grind (arith, e)
no_control c rest (l ∷ ls) e = grind (arith, e)

-- the parts behind the first are lanes too,
pub lanes_left : {D : Type 0} (part : StorePart D) (rest : List (StorePart D)) (ls : List LaneView) → part ∷ rest ≡ lane_parts ls → (left : List LaneView) × (rest ≡ lane_parts left)
lanes_left part rest [] e = grind (arith, e)
lanes_left part rest (l ∷ ls) e = (ls, grind (arith, e))

-- and a lane that goes behind those taken stays where it stood.
pub lane_taken : {D : Type 0} (taken : List LaneView) (l : LaneView) (rest : List (StorePart D)) → lane_parts (taken ++ l ∷ []) ++ rest ≡ lane_parts taken ++ Lane l ∷ rest
lane_taken [] l rest = refl
lane_taken (t ∷ ts) l rest = ap (λ ps. Lane t ∷ ps) (lane_taken ts l rest)

-- The same parts are of the same lanes,
same_lanes : {D : Type 0} (xs ys : List LaneView) → lane_parts {D = D} xs ≡ lane_parts ys → xs ≡ ys
same_lanes [] [] e = refl
same_lanes [] (y ∷ ys) e = absurd cc
same_lanes (x ∷ xs) [] e = absurd cc
same_lanes {D} (x ∷ xs) (y ∷ ys) e =
    let first : x ≡ y = cc in
    let rest : lane_parts {D = D} xs ≡ lane_parts ys = cc in
    ap₂ (λ v vs. v ∷ vs) first (same_lanes xs ys rest)

-- and a control part and lanes that lie in these parts are the store's.
pub store_of_parts : {D : Type 0} (control : ControlState) (lanes : List LaneView) (rest : List (StorePart D)) (s : StoreView) → Control control ∷ rest ≡ parts_view s → lane_parts lanes ≡ rest →
    let store : StoreView = record { control = control; lanes = lanes } in store ≡ s
store_of_parts {D} control lanes rest s parts taken =
    let first : control ≡ s.control = cc in
    let behind : rest ≡ lane_parts {D = D} s.lanes = cc in
    ap₂ (λ (c : ControlState) (ls : List LaneView). record { control = c; lanes = ls }) first (same_lanes lanes s.lanes (taken ∙ behind))
