-- What is asked of a lane, at its grain, is what is asked of all grains.
use Rattle.std.proofs.Common.{◌≡◌, ℕ, ◌<◌, Option, Some, IsSome, List, [], ◌∷◌, ◌++◌, map, refl, sym, ap, subst, ◌∙◌}
use Rattle.std.proofs.lemmas.List.{append-nil}
use Rattle.fc_base.specs.Sheet.{Sheet, live_place, volume_grains}
use Rattle.fc_base.specs.declared.size.GrainSize.{GrainSize}
use Rattle.fc_entry.specs.Picture.{Picture, grain_of_block}
use Rattle.fc_kept.specs.Prefix.{AreFillSteps, AreStepsOf}
use Rattle.fc_lane.specs.Doing.{FitsAsk}
use Rattle.fc_legal.specs.Whole.{Whole, as_one, lane_at, lanes, part_at, part_of_sheet, single_lane}
use Rattle.fc_parts.proofs.Decisions.{part_follows}
use Rattle.fc_parts.proofs.Numbers.{IsOf, all_place}
use Rattle.fc_parts.proofs.Pictures.{shown_parts}
use Rattle.fc_parts.proofs.Spots.{cleaned_parts, copied_parts, spot_same}
use Rattle.fc_parts.proofs.Views.{live_parts}
use Rattle.fc_pictures.specs.Law.{now_of}
use Rattle.fc_rules.specs.LaneTold.{LaneOf, LaneTold, place_of}
use Rattle.fc_rules.specs.LaneTurn.{cleaned_slot, copied_slot, spot_at}
use Rattle.fc_rules.specs.Spot.{Spot}
use Rattle.fc_rules.specs.Steps.{DiskStep, own_step, step_of_move, steps_of_fill, steps_of_write}
use Rattle.fc_steps.specs.Asking.{request_of}
use Rattle.fc_steps.specs.UnderWay.{grain_asked, moving_asked, slot_asked, spot_asked, steps_asked}
use Rattle.fc_steps.specs.declared.ask.Ask.{Ask}
use Rattle.fc_steps.specs.declared.ask.Ask.TheVariants.{Write, Copy, Clean}
use Rattle.fc_steps.proofs.Naming.{some_is}
use Rattle.law_crash.specs.Doing.{number_of}
use Rattle.law_crash.proofs.Lawful.{write_of}
use Rattle.law_crash.proofs.Making.{spot_in}

-- ---- the steps of what is asked: moves, and the write itself

abbrev pub owns_asked : GrainSize → Spot → Ask → ℕ → List DiskStep
owns_asked grain spot (Write part) x = own_step grain spot part x ∷ []
owns_asked grain spot (Copy m g) x = []
owns_asked grain spot (Clean m g) x = []

pub steps_split : (l : LaneOf) (spot : Spot) (ask : Ask) (x : ℕ) → steps_asked l spot ask x ≡ map (step_of_move spot) (moving_asked spot ask x) ++ owns_asked l.grain spot ask x
steps_split l spot (Write part) x = refl
steps_split l spot (Copy m g) x = sym (append-nil (steps_of_fill spot x))
steps_split l spot (Clean m g) x = sym (append-nil (steps_of_fill spot x))

-- what is asked fits by the chains alone
abbrev IsSomePlace : Sheet → ℕ → Type 0
IsSomePlace s v = IsSome (live_place s.slots v)

abbrev IsInPlace : LaneOf → Sheet → ℕ → ℕ → Type 0
IsInPlace l s v number = place_of l number < volume_grains s.slots v

pub fits_same : (l : LaneOf) (ask : Ask) (a b : LaneTold) → a.sheet ≡ b.sheet → FitsAsk l ask a → FitsAsk l ask b
fits_same l (Write part) a b e f =
    record {
      some = f.some;
      in_one = f.in_one;
      of_lane = f.of_lane;
      there = subst (λ (s : Sheet). IsSomePlace s part.volume.0) e f.there;
      inside = subst (λ (s : Sheet). IsInPlace l s part.volume.0 (grain_of_block l.grain part.block)) e f.inside;
    }
fits_same l (Copy m g) a b e f = subst (λ (s : Sheet). IsSome (copied_slot s.slots m.0 (place_of l g.0))) e f
fits_same l (Clean m g) a b e f = subst (λ (s : Sheet). IsSome (cleaned_slot s.slots m.0 (place_of l g.0))) e f

-- ---- in a lane

pub number_same : (l : LaneOf) (ask : Ask) → grain_asked l ask ≡ number_of l.grain (request_of ask)
number_same l (Write part) = refl
number_same l (Copy m g) = refl
number_same l (Clean m g) = refl

module _ (grain : GrainSize) (w : Whole) (i : ℕ) (il : i < lanes w) where
  abbrev pub here : LaneOf
  here = lane_at grain w i

  abbrev pub told_here : LaneTold
  told_here = part_at grain w i

  sheet_here : told_here.sheet ≡ (part_of_sheet here w.books.sheet)
  sheet_here = (part_follows grain w i).sheet

  pub spot_all : (ask : Ask) → IsOf here (grain_asked here ask) → spot_asked here told_here ask ≡ spot_in grain w (request_of ask)
  spot_all ask is_of =
      spot_same here il (as_one w) told_here (part_follows grain w i) (grain_asked here ask) is_of
      ∙ ap (λ (n : ℕ). spot_at (single_lane grain) (as_one w) n) (number_same here ask)

  -- what a volume shows there
  pub shown_all : (v number : ℕ) → IsOf here number → now_of told_here.picture v (place_of here number) ≡ now_of w.picture v number
  shown_all v number is_of =
      ap (λ (p : Picture). now_of p v (place_of here number)) (part_follows grain w i).picture
      ∙ (shown_parts here il w.picture number is_of record { 0 = v } ∙ ap (λ (g : ℕ). now_of w.picture v g) (all_place grain number))

  live_here : (v : ℕ) → live_place told_here.sheet.slots v ≡ live_place w.books.sheet.slots v
  live_here v = ap (λ (s : Sheet). live_place s.slots v) sheet_here ∙ live_parts here il w.books.sheet.slots v

  fill_is : (spot : Spot) (o : Option ℕ) (x : ℕ) (steps : List DiskStep) → o ≡ Some x → AreFillSteps spot o steps → steps ≡ steps_of_fill spot x
  fill_is spot o x steps e h = let f : AreFillSteps spot (Some x) steps = subst (λ (z : Option ℕ). AreFillSteps spot z steps) e h in f

  -- the slot that is written or filled, by all grains
  abbrev pub slot_all : Ask → Option ℕ
  slot_all (Write part) = live_place w.books.sheet.slots part.volume.0
  slot_all (Copy m g) = copied_slot w.books.sheet.slots m.0 (place_of (single_lane grain) g.0)
  slot_all (Clean m g) = cleaned_slot w.books.sheet.slots m.0 (place_of (single_lane grain) g.0)

  pub slot_same : (ask : Ask) → IsOf here (grain_asked here ask) → slot_asked here told_here ask ≡ slot_all ask
  slot_same (Write part) is_of = live_here part.volume.0
  slot_same (Copy m g) is_of = ap (λ (s : Sheet). copied_slot s.slots m.0 (place_of here g.0)) sheet_here ∙ copied_parts here il w.books.sheet.slots m.0 g.0 is_of
  slot_same (Clean m g) is_of = ap (λ (s : Sheet). cleaned_slot s.slots m.0 (place_of here g.0)) sheet_here ∙ cleaned_parts here il w.books.sheet.slots m.0 g.0 is_of

  -- so the lane's steps are those of the entry
  steps_by : (ask : Ask) (x : ℕ) (steps : List DiskStep) → AreStepsOf grain w (request_of ask) steps → slot_all ask ≡ Some x → steps ≡ steps_asked here (spot_in grain w (request_of ask)) ask x
  steps_by (Write part) x steps are e =
      let o = write_of grain w part steps are in
      let same : o.t ≡ x = some_is (sym o.place ∙ e) in
      o.steps_are ∙ ap (λ (t : ℕ). steps_of_write grain (spot_in grain w (request_of (Write part))) part t) same
  steps_by (Copy m g) x steps are e = fill_is (spot_in grain w (request_of (Copy m g))) (slot_all (Copy m g)) x steps e are
  steps_by (Clean m g) x steps are e = fill_is (spot_in grain w (request_of (Clean m g))) (slot_all (Clean m g)) x steps e are

  pub steps_all : (ask : Ask) (x : ℕ) (steps : List DiskStep) → IsOf here (grain_asked here ask) → AreStepsOf grain w (request_of ask) steps → slot_asked here told_here ask ≡ Some x →
      let spot : Spot = spot_in grain w (request_of ask) in
      steps ≡ map (step_of_move spot) (moving_asked spot ask x) ++ owns_asked grain spot ask x
  steps_all ask x steps is_of are slot =
      steps_by ask x steps are (sym (slot_same ask is_of) ∙ slot) ∙ steps_split here (spot_in grain w (request_of ask)) ask x
