-- The loop that makes planned moves.
use Rattle.std.proofs.Common.{◌≡◌, ℕ, zero, suc, ◌+◌, ◌*◌, ◌<◌, ◌≤◌, true, false, Option, Some, None, List, [], ◌∷◌, ◌++◌, length, map, drop, get_or, slice_index_or, is_some, refl, sym, ap, subst, ◌∙◌, arith, length-append}
use Rattle.fc_base.specs.SheetFacts.{IsSound}
use Rattle.fc_base.specs.declared.request.Move.{Move}
use Rattle.fc_chain.specs.Chains.{Chains}
use Rattle.fc_grains.specs.Grains.{GrainsState}
use Rattle.fc_steps.specs.Moving.{CanMove, MoveEnds, SameLane}
use Rattle.fc_steps.specs.Standing.{AllSized}
use Rattle.fc_steps.specs.StepsEnd.{CanMakeMoves, StepsEnd, StepsStand, torn_in}
use Rattle.fc_steps.specs.declared.stop.Stop.{Stop}
use Rattle.fc_steps.proofs.StepsMade.{MovesMade, none_made, next_sound, next_sized, next_can, all_made, one_stopped, made_next}
use Rattle.fc_rules.specs.LaneTold.{LaneOf, LaneTold, place_of}
use Rattle.fc_rules.specs.LaneTurn.{spot_at}
use Rattle.fc_rules.specs.Spot.{move_in}
use Rattle.fc_rules.specs.Steps.{step_of_move}

-- the moves of these slots are planned, and can be made
pub record Planned (l : LaneOf) (told : LaneTold) (number : ℕ) (ks : List ℕ) (chains : Chains) (old : GrainsState) (plan : List Move) (place : ℕ) : Type 0 where
  pub can : CanMakeMoves l told number ks chains old
  pub plan_is : plan ≡ map (move_in (spot_at l told number)) ks
  pub place_is : place ≡ place_of l number

-- the first `i` were made
pub record Looping (plan : List Move) (place : ℕ) (chains : Chains) (old : GrainsState) (after : Chains) (new : GrainsState) (calls : ℕ) (made : List Move) (i : ℕ) : Type 0 where
  pub leads : (l : LaneOf) (told : LaneTold) (number : ℕ) (ks : List ℕ) → Planned l told number ks chains old plan place → MovesMade l told number ks chains old after new calls made (drop i plan)
  pub few : calls ≤ 2 * i
  pub count : length made ≡ i
  pub within : i ≤ length plan

pub drop_at : {A : Type 0} (xs : List A) (i : ℕ) (d : A) → i < length xs → drop i xs ≡ get_or xs i d ∷ drop (suc i) xs
drop_at [] i d lt = absurd (omega arith)
drop_at (x ∷ xs) zero d lt = refl
drop_at (x ∷ xs) (suc i) d lt = drop_at xs i d (omega arith)

pub drop_past : {A : Type 0} (xs : List A) (i : ℕ) → length xs ≤ i → drop i xs ≡ []
drop_past [] zero le = refl
drop_past [] (suc i) le = refl
drop_past (x ∷ xs) zero le = absurd (omega arith)
drop_past (x ∷ xs) (suc i) le = drop_past xs i (omega arith)

-- the move at a place of the plan
abbrev pub move_of : List Move → ℕ → Move
move_of plan i = slice_index_or plan i (record { slot = record { 0 = 0 }; volume = record { 0 = 0 }; grain = record { 0 = 0 }; in_place = false })

pub next_left : (plan : List Move) (i : ℕ) → i < length plan → drop i plan ≡ move_of plan i ∷ drop (i + 1) plan
next_left plan i lt =
    let next : suc i ≡ i + 1 = omega arith in
    drop_at plan i _ lt ∙ ap (λ (z : ℕ). move_of plan i ∷ drop z plan) next

pub loop_begins : (plan : List Move) (place : ℕ) (chains : Chains) (old : GrainsState) (made : List Move) → made ≡ [] → Looping plan place chains old chains old 0 made 0
loop_begins plan place chains old made empty = record {
  leads = λ l told number ks p.
      subst (λ (z : List Move). MovesMade l told number ks chains old chains old 0 z plan) (sym empty)
      (subst (λ (z : List Move). MovesMade l told number ks chains old chains old 0 [] z) (sym p.plan_is) (none_made l told number ks chains old p.can));
  few = omega arith;
  count = ap (length {A = Move}) empty;
  within = omega arith;
}

module _ (plan : List Move) (place : ℕ) (chains : Chains) (old : GrainsState) (after : Chains) (new : GrainsState) (calls : ℕ) (made : List Move) (i : ℕ) (m : Move)
    (so : Looping plan place chains old after new calls made i) (left : drop i plan ≡ m ∷ drop (i + 1) plan) where
  made_so : (l : LaneOf) (told : LaneTold) (number : ℕ) (ks : List ℕ) → Planned l told number ks chains old plan place → MovesMade l told number ks chains old after new calls made (m ∷ drop (i + 1) plan)
  made_so l told number ks p = subst (λ (z : List Move). MovesMade l told number ks chains old after new calls made z) left (so.leads l told number ks p)

  pub loop_sound : (l : LaneOf) (told : LaneTold) (number : ℕ) (ks : List ℕ) → Planned l told number ks chains old plan place → IsSound after.sheet
  loop_sound l told number ks p = next_sound l told number ks chains old p.can after new calls made (drop (i + 1) plan) m (made_so l told number ks p)

  pub loop_sized : (l : LaneOf) (told : LaneTold) (number : ℕ) (ks : List ℕ) → Planned l told number ks chains old plan place → AllSized after.sheet new.volumes
  loop_sized l told number ks p = next_sized l told number ks chains old p.can after new calls made (drop (i + 1) plan) m (made_so l told number ks p)

  pub loop_can : (l : LaneOf) (told : LaneTold) (number : ℕ) (ks : List ℕ) → Planned l told number ks chains old plan place → (k : ℕ) × CanMove after place m k
  loop_can l told number ks p =
      let c = next_can l told number ks chains old p.can after new calls made (drop (i + 1) plan) m (made_so l told number ks p) in
      (c.0, subst (λ (z : ℕ). CanMove after z m c.0) (sym p.place_is) c.1)

  -- this move was made
  pub loop_next : (n : ℕ) (after' : Chains) (new' : GrainsState) → i < length plan → n ≤ 2 → ((k : ℕ) → CanMove after place m k → MoveEnds after new place k m n None after' new') → SameLane new new' →
      Looping plan place chains old after' new' (calls + n) (made ++ m ∷ []) (i + 1)
  loop_next n after' new' lt two ends same =
      let few = so.few in
      let count = so.count in
      record {
        leads = λ l told number ks p.
            made_next l told number ks chains old p.can after new calls made (drop (i + 1) plan) m (made_so l told number ks p) n after' new'
            (subst (λ (z : ℕ). (k : ℕ) → CanMove after z m k → MoveEnds after new z k m n None after' new') p.place_is ends) same;
        few = omega arith;
        count = length-append made (m ∷ []) ∙ ap (λ z. z + 1) so.count;
        within = omega arith;
      }

  -- it wasn't
  pub loop_stops : (l : LaneOf) (told : LaneTold) (number : ℕ) (ks : List ℕ) → Planned l told number ks chains old plan place → (n : ℕ) (stop : Option Stop) (after' : Chains) (new' : GrainsState) → is_some stop ≡ true →
      ((k : ℕ) → CanMove after place m k → MoveEnds after new place k m n stop after' new') → SameLane new new' →
      StepsEnd (spot_at l told number) (map (step_of_move (spot_at l told number)) ks) made (calls + n) stop old new' × StepsStand l told None made (calls + n) (torn_in stop) chains old after' new'
  loop_stops l told number ks p n None after' new' stops ends same = absurd cc
  loop_stops l told number ks p n (Some stop) after' new' stops ends same =
      one_stopped l told number ks chains old p.can after new calls made (drop (i + 1) plan) m (made_so l told number ks p) n stop after' new'
      (subst (λ (z : ℕ). (k : ℕ) → CanMove after z m k → MoveEnds after new z k m n (Some stop) after' new') p.place_is ends) same

pub loop_ends : (plan : List Move) (place : ℕ) (chains : Chains) (old : GrainsState) (after : Chains) (new : GrainsState) (calls : ℕ) (made : List Move) (i : ℕ) →
    Looping plan place chains old after new calls made i → length plan ≤ i → (l : LaneOf) (told : LaneTold) (number : ℕ) (ks : List ℕ) → Planned l told number ks chains old plan place →
    StepsEnd (spot_at l told number) (map (step_of_move (spot_at l told number)) ks) made calls None old new × StepsStand l told None made calls None chains old after new
loop_ends plan place chains old after new calls made i so past l told number ks p =
    all_made l told number ks chains old p.can after new calls made
    (subst (λ (z : List Move). MovesMade l told number ks chains old after new calls made z) (drop_past plan i past) (so.leads l told number ks p))

-- where it stands there is none
pub stop_none : (stop : Option Stop) → is_some stop ≡ false → stop ≡ None
stop_none None e = refl
stop_none (Some stop) e = absurd cc

pub ends_none : (after : Chains) (new : GrainsState) (place : ℕ) (m : Move) (n : ℕ) (stop : Option Stop) (after' : Chains) (new' : GrainsState) → is_some stop ≡ false →
    ((k : ℕ) → CanMove after place m k → MoveEnds after new place k m n stop after' new') → (k : ℕ) → CanMove after place m k → MoveEnds after new place k m n None after' new'
ends_none after new place m n stop after' new' e ends k can = subst (λ (z : Option Stop). MoveEnds after new place k m n z after' new') (stop_none stop e) (ends k can)
