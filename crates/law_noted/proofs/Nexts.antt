-- Which step of an entry is which: the moves come first, and the write itself is last.
use Rattle.std.proofs.Common.{◌≡◌, ℕ, List, [], ◌∷◌, ◌++◌, length, map, Option, Some, None, refl, sym, subst, ◌∙◌, ◌⊎◌, inl, inr, arith}
use Rattle.std.proofs.lemmas.List.{append-nil}
use Rattle.fc_base.specs.declared.ids.GrainNo.{GrainNo}
use Rattle.fc_base.specs.declared.ids.MapId.{MapId}
use Rattle.fc_base.specs.declared.request.Move.{Move}
use Rattle.fc_base.specs.declared.request.Request.{Request}
use Rattle.fc_base.specs.declared.request.Request.TheVariants.{Write, Copy, Clean}
use Rattle.fc_base.specs.declared.request.Side.TheVariants.{Under}
use Rattle.fc_base.specs.declared.size.GrainSize.{GrainSize}
use Rattle.fc_changed.specs.Row.{Row}
use Rattle.fc_kept.specs.Prefix.{AreFillSteps, AreStepsOf, spot_of}
use Rattle.fc_legal.specs.Whole.{Whole, single_lane}
use Rattle.fc_rules.specs.LaneTold.{place_of}
use Rattle.fc_rules.specs.LaneTurn.{cleaned_slot, copied_slot}
use Rattle.fc_rules.specs.Spot.{Spot, move_in}
use Rattle.fc_rules.specs.Steps.{DiskStep, step_of_move, steps_of_fill}
use Rattle.fc_base.specs.Moves.{fill_moves}
use Rattle.law_crash.specs.Doing.{actions_of_step, actions_of_steps}
use Rattle.law_crash.proofs.Lawful.{moves_in, own_in, write_of}
use Rattle.law_crash.proofs.Making.{spot_in, steps_in}
use Rattle.law_noted.specs.Advancing.{IsNext}
use Rattle.law_noted.proofs.Acting.{LeaveRows, both_leave, move_leaves}

-- ---- lists

pub head_is : {X : Type 0} (x y : X) (xs ys : List X) → x ∷ xs ≡ y ∷ ys → x ≡ y
head_is x y xs ys e = cc

pub tail_is : {X : Type 0} (x y : X) (xs ys : List X) → x ∷ xs ≡ y ∷ ys → xs ≡ ys
tail_is x y xs ys e = cc

pub none_left : {X : Type 0} (xs ys : List X) (y : X) → [] ≡ xs ++ y ∷ ys → ⊥
none_left [] ys y e = cc
none_left (x ∷ xs) ys y e = cc

-- lists that begin with as many
pub same_front : {X : Type 0} (xs ys a b : List X) → length xs ≡ length ys → xs ++ a ≡ ys ++ b → (xs ≡ ys) × (a ≡ b)
same_front [] [] a b n e = (refl, e)
same_front [] (y ∷ ys) a b n e = absurd (omega (arith, n))
same_front (x ∷ xs) [] a b n e = absurd (omega (arith, n))
same_front (x ∷ xs) (y ∷ ys) a b n e =
    let head : x ≡ y = head_is x y (xs ++ a) (ys ++ b) e in
    let r = same_front xs ys a b (omega (arith, n)) (tail_is x y (xs ++ a) (ys ++ b) e) in
    ((λ i. head i ∷ r.0 i), r.1)

-- lists that end with one
pub same_end : {X : Type 0} (xs ys : List X) (a b : X) → xs ++ a ∷ [] ≡ ys ++ b ∷ [] → (xs ≡ ys) × (a ≡ b)
same_end [] [] a b e = (refl, head_is a b [] [] e)
same_end [] (y ∷ ys) a b e = absurd (none_left ys [] b (tail_is a y [] (ys ++ b ∷ []) e))
same_end (x ∷ xs) [] a b e = absurd (none_left xs [] a (sym (tail_is x b (xs ++ a ∷ []) [] e)))
same_end (x ∷ xs) (y ∷ ys) a b e =
    let head : x ≡ y = head_is x y (xs ++ a ∷ []) (ys ++ b ∷ []) e in
    let r = same_end xs ys a b (tail_is x y (xs ++ a ∷ []) (ys ++ b ∷ []) e) in
    ((λ i. head i ∷ r.0 i), r.1)

-- ---- moves, and the write itself

abbrev pub IsMoving : DiskStep → Type 0
IsMoving s = (m : Move) × (s.move ≡ Some m) × (s.side ≡ Under)

abbrev pub AreMoving : List DiskStep → Type 0
AreMoving [] = Unit {0}
AreMoving (s ∷ rest) = IsMoving s × AreMoving rest

abbrev pub IsOwn : List DiskStep → Type 0
IsOwn [] = Unit {0}
IsOwn (own ∷ []) = own.move ≡ None
IsOwn owns = ⊥

pub record Shape (steps : List DiskStep) : Type 0 where
  pub moves : List DiskStep
  pub owns : List DiskStep
  pub moving : AreMoving moves
  pub own : IsOwn owns
  pub steps_are : steps ≡ moves ++ owns

all_moving : (spot : Spot) (ks : List ℕ) → AreMoving (map (step_of_move spot) ks)
all_moving spot [] = tt
all_moving spot (k ∷ ks) = ((move_in spot k, refl, refl), all_moving spot ks)

fill_shape : (spot : Spot) (o : Option ℕ) (steps : List DiskStep) → AreFillSteps spot o steps → Shape steps
fill_shape spot None steps are = absurd are
fill_shape spot (Some k) steps are =
    let moves : List DiskStep = steps_of_fill spot k in
    record { moves = moves; owns = []; moving = all_moving spot (fill_moves spot.column k); own = tt; steps_are = are ∙ sym (append-nil moves) }

pub shape_of : (grain : GrainSize) (w : Whole) (r : Request) (steps : List DiskStep) → AreStepsOf grain w r steps → Shape steps
shape_of grain w (Write part) steps are =
    let o = write_of grain w part steps are in
    record {
      moves = steps_in grain w (Write part) (moves_in grain w part o.t);
      owns = own_in grain w part o.t ∷ [];
      moving = all_moving (spot_in grain w (Write part)) (moves_in grain w part o.t);
      own = refl;
      steps_are = o.steps_are;
    }
shape_of grain w (Copy m g) steps are =
    fill_shape (spot_of grain w g.0) (copied_slot w.books.sheet.slots m.0 (place_of (single_lane grain) g.0)) steps are
shape_of grain w (Clean m g) steps are =
    fill_shape (spot_of grain w g.0) (cleaned_slot w.books.sheet.slots m.0 (place_of (single_lane grain) g.0)) steps are
shape_of grain w r steps are = absurd are

-- whatever comes before a step are moves
front_moving : (moves owns front back : List DiskStep) (step : DiskStep) → AreMoving moves → IsOwn owns → moves ++ owns ≡ front ++ step ∷ back → AreMoving front
front_moving moves owns [] back step m o e = tt
front_moving [] [] (x ∷ front) back step m o e = absurd (none_left (x ∷ front) back step e)
front_moving [] (own ∷ []) (x ∷ front) back step m o e = absurd (none_left front back step (tail_is own x [] (front ++ step ∷ back) e))
front_moving [] (own ∷ other ∷ owns) (x ∷ front) back step m o e = absurd o
front_moving (s ∷ moves) owns (x ∷ front) back step m o e = (
  subst IsMoving (head_is s x (moves ++ owns) (front ++ step ∷ back) e) m.0,
  front_moving moves owns front back step m.1 o (tail_is s x (moves ++ owns) (front ++ step ∷ back) e),
)

-- a step is a move, or the last one
abbrev pub IsLast : List DiskStep → DiskStep → Type 0
IsLast back step = (step.move ≡ None) × (back ≡ [])

step_kind : (moves owns front back : List DiskStep) (step : DiskStep) → AreMoving moves → IsOwn owns → moves ++ owns ≡ front ++ step ∷ back → IsMoving step ⊎ IsLast back step
step_kind [] [] front back step m o e = absurd (none_left front back step e)
step_kind [] (own ∷ []) [] back step m o e =
    inr (subst (λ (s : DiskStep). s.move ≡ None) (head_is own step [] back e) o, sym (tail_is own step [] back e))
step_kind [] (own ∷ []) (x ∷ front) back step m o e = absurd (none_left front back step (tail_is own x [] (front ++ step ∷ back) e))
step_kind [] (own ∷ other ∷ owns) front back step m o e = absurd o
step_kind (s ∷ moves) owns [] back step m o e = inl (subst IsMoving (head_is s step (moves ++ owns) back e) m.0)
step_kind (s ∷ moves) owns (x ∷ front) back step m o e = step_kind moves owns front back step m.1 o (tail_is s x (moves ++ owns) (front ++ step ∷ back) e)

pub front_moves : (grain : GrainSize) (w : Whole) (r : Request) (steps front back : List DiskStep) (step : DiskStep) → AreStepsOf grain w r steps → steps ≡ front ++ step ∷ back → AreMoving front
front_moves grain w r steps front back step are split =
    let s = shape_of grain w r steps are in front_moving s.moves s.owns front back step s.moving s.own (sym s.steps_are ∙ split)

pub kind_of : (grain : GrainSize) (w : Whole) (r : Request) (steps front back : List DiskStep) (step : DiskStep) → AreStepsOf grain w r steps → steps ≡ front ++ step ∷ back → IsMoving step ⊎ IsLast back step
kind_of grain w r steps front back step are split =
    let s = shape_of grain w r steps are in step_kind s.moves s.owns front back step s.moving s.own (sym s.steps_are ∙ split)

some_none : (o : Option Move) (m : Move) → o ≡ Some m → o ≡ None → ⊥
some_none o m a b = let f : Some m ≡ None = sym a ∙ b in cc

pub own_last : (grain : GrainSize) (w : Whole) (r : Request) (steps front back : List DiskStep) (step : DiskStep) → AreStepsOf grain w r steps → steps ≡ front ++ step ∷ back → step.move ≡ None → back ≡ []
own_last grain w r steps front back step are split none =
    elim (kind_of grain w r steps front back step are split) [
      | inl x ↦ absurd (some_none step.move x.0 x.1 none)
      | inr x ↦ x.1
    ]

-- every step of a copy or a cleaning is a move
fill_moving : (spot : Spot) (o : Option ℕ) (steps : List DiskStep) → AreFillSteps spot o steps → AreMoving steps
fill_moving spot None steps are = absurd are
fill_moving spot (Some k) steps are = subst AreMoving (sym are) (all_moving spot (fill_moves spot.column k))

moving_at : (front back : List DiskStep) (step : DiskStep) → AreMoving (front ++ step ∷ back) → IsMoving step
moving_at [] back step m = m.0
moving_at (x ∷ front) back step m = moving_at front back step m.1

pub copy_step : (grain : GrainSize) (w : Whole) (m : MapId) (g : GrainNo) (steps front back : List DiskStep) (step : DiskStep) → AreStepsOf grain w (Copy m g) steps → steps ≡ front ++ step ∷ back → IsMoving step
copy_step grain w m g steps front back step are split =
    moving_at front back step (subst AreMoving split (fill_moving (spot_of grain w g.0) (copied_slot w.books.sheet.slots m.0 (place_of (single_lane grain) g.0)) steps are))

pub clean_step : (grain : GrainSize) (w : Whole) (m : MapId) (g : GrainNo) (steps front back : List DiskStep) (step : DiskStep) → AreStepsOf grain w (Clean m g) steps → steps ≡ front ++ step ∷ back → IsMoving step
clean_step grain w m g steps front back step are split =
    moving_at front back step (subst AreMoving split (fill_moving (spot_of grain w g.0) (cleaned_slot w.books.sheet.slots m.0 (place_of (single_lane grain) g.0)) steps are))

-- ---- what is next behind a front

pub here : (steps front back : List DiskStep) (n : ℕ) (step : DiskStep) → steps ≡ front ++ back → length front ≡ n → (next : IsNext steps n step) → (front ≡ next.front) × (back ≡ step ∷ next.back)
here steps front back n step split count next =
    same_front front next.front back (step ∷ next.back) (count ∙ sym next.count) (sym split ∙ next.split)

-- ---- moves leave rows

pub moves_leave : (rows : List Row) (g : ℕ) (steps : List DiskStep) → AreMoving steps → LeaveRows (actions_of_steps rows g steps)
moves_leave rows g [] m = tt
moves_leave rows g (s ∷ steps) m =
    both_leave (actions_of_step rows g s) (actions_of_steps rows g steps) (move_leaves rows g s m.0.0 m.0.1) (moves_leave rows g steps m.1)
