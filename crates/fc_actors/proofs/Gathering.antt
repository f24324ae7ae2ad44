-- Lanes, taken one after the other from the front of a list of parts, and the store that they then make.
use Rattle.std.proofs.Common.{◌≡◌, ◌≢◌, ℕ, suc, ◌∷◌, ◌++◌, [], List, length, slice_index_or, ap, ap₂, sym, ◌∙◌, append-nil, arith, refl}
use Rattle.std.specs.Prelude.{remove}
use Rattle.fc_desk.specs.Control.{ControlState}
use Rattle.fc_lane.specs.Lane.{LaneView}
use Rattle.fc_stands.specs.Store.{StoreView}
use Rattle.fc_store.specs.StoreParts.{lane_parts, parts_view}
use Rattle.fc_store.specs.declared.store_part.StorePart.{StorePart}
use Rattle.fc_store.specs.declared.store_part.StorePart.TheVariants.{Control, Lane}
use Rattle.fc_store.proofs.StoreParts.{lane_taken}

-- A store is its control part and its lanes.
pub same_store : (store : StoreView) (control : ControlState) (lanes : List LaneView) (s : StoreView) → store ≡ record { control = control; lanes = lanes } → control ≡ s.control → lanes ≡ s.lanes → store ≡ s
same_store store control lanes s is first behind = is ∙ ap₂ (λ (c : ControlState) (ls : List LaneView). record { control = c; lanes = ls }) first behind

pub lanes_long : (D : Type 0) (ls : List LaneView) → length (lane_parts {D = D} ls) ≡ length ls
lanes_long D [] = refl
lanes_long D (l ∷ ls) = ap (λ (n : ℕ). suc n) (lanes_long D ls)

module _ {D : Type 0} where
  -- The control part is first among the parts,
  pub control_first : (parts rest : List (StorePart D)) (s : StoreView) (taken : StorePart D) (control : ControlState) → parts ≡ parts_view s → taken ≡ slice_index_or parts 0 taken → rest ≡ remove parts 0 → taken ≡ Control control →
      Control control ∷ rest ≡ parts_view s
  control_first parts rest s taken control are first left is =
      ap₂ (λ (p : StorePart D) (ps : List (StorePart D)). p ∷ ps) (sym is ∙ first ∙ ap (λ (ps : List (StorePart D)). slice_index_or ps 0 taken) are) (left ∙ ap (λ (ps : List (StorePart D)). remove ps 0) are)

  -- where some lanes are left there is a first of them,
  pub first_lane : (parts : List (StorePart D)) (left : List LaneView) → parts ≡ lane_parts left → length parts ≢ 0 → (first : LaneView) × (rest : List LaneView) × (parts ≡ lane_parts (first ∷ rest))
  first_lane parts [] is some = absurd (some (ap length is))
  first_lane parts (first ∷ rest) is some = (first, rest, is)

  -- once it is behind those taken, all stand as before,
  pub all_kept : (taken now : List LaneView) (parts left all : List (StorePart D)) (first : LaneView) (rest : List LaneView) → parts ≡ lane_parts (first ∷ rest) → left ≡ lane_parts rest → now ≡ taken ++ first ∷ [] →
      lane_parts taken ++ parts ≡ all → lane_parts now ++ left ≡ all
  all_kept taken now parts left all first rest were are behind kept =
      ap (λ (ls : List LaneView). lane_parts ls ++ left) behind ∙ lane_taken taken first left ∙ ap (λ (ps : List (StorePart D)). lane_parts taken ++ Lane first ∷ ps) are
      ∙ ap (λ (ps : List (StorePart D)). lane_parts taken ++ ps) (sym were) ∙ kept

  -- and when none is left, all are taken.
  pub all_taken : (taken : List LaneView) (parts all : List (StorePart D)) → length parts ≡ 0 → lane_parts taken ++ parts ≡ all → lane_parts taken ≡ all
  all_taken taken [] all none kept = sym (append-nil (lane_parts taken)) ∙ kept
  all_taken taken (part ∷ parts) all none kept = absurd (omega (arith, none))

  -- Put into a list that was emptied, the parts of a store are all that it has.
  pub parts_again : (into now : List (StorePart D)) (s : StoreView) → now ≡ into ++ parts_view s → into ≡ [] → now ≡ parts_view s
  parts_again into now s are emptied = are ∙ ap (λ (ps : List (StorePart D)). ps ++ parts_view s) emptied
