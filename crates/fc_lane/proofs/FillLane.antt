-- A copy or a cleaning of a grain in a lane.
use Rattle.std.proofs.Common.{◌≡◌, ℕ, ◌<◌, ◌≤◌, ◌/◌, ◌%◌, false, Option, None, List, [], length, map, reverse, sym, ap, subst, ◌∙◌, arith}
use Rattle.std.proofs.lemmas.List.{length-map, length-reverse}
use Rattle.fc_base.specs.Column.{Column}
use Rattle.fc_base.specs.Moves.{fill_moves, list_all_with_asked, list_with_asked}
use Rattle.fc_base.specs.Plan.{move_at}
use Rattle.fc_base.specs.Sheet.{Sheet, column, birth_place}
use Rattle.fc_base.specs.SheetFacts.{IsSound}
use Rattle.fc_base.specs.declared.request.Move.{Move}
use Rattle.fc_chain.specs.Planning.{CanFill, moves_of_named, volume_count}
use Rattle.fc_chain.proofs.Whole.{fits_short}
use Rattle.fc_lane.specs.Entering.{HasFilled, IsFill, SameBeside}
use Rattle.fc_lane.specs.Lane.{LaneView, IsLaneOf, IsReady, of}
use Rattle.fc_steps.specs.StepsEnd.{CanMakeMoves, StepsEnd, StepsStand, torn_in}
use Rattle.fc_steps.specs.declared.stop.Stop.{Stop}
use Rattle.fc_lane.proofs.Entering.{stands_at}
use Rattle.fc_lane.proofs.Room.{HasRoom, count_told, room_for, some_room}
use Rattle.fc_moves.proofs.Filling.{filled}
use Rattle.fc_moves.proofs.Listing.{reached_root}
use Rattle.fc_moves.proofs.Members.{not_in_nil}
use Rattle.fc_moves.proofs.Prefixes.{Fits, Fits.fits_none}
use Rattle.fc_pictures.specs.StepsLaw.{IsLiveAt}
use Rattle.fc_pictures.proofs.Running.{steps_law_holds}
use Rattle.fc_rules.specs.LaneTold.{LaneOf, LaneTold, place_of}
use Rattle.fc_rules.specs.LaneTurn.{spot_at}
use Rattle.fc_rules.specs.Spot.{move_in}
use Rattle.fc_rules.specs.Steps.{step_of_move}

-- ---- how long the plan is

fill_short : (s : Sheet) (g k : ℕ) → IsSound s → IsLiveAt s.slots g k → (column s.slots g).held k ≡ false → length (fill_moves (column s.slots g) k) ≤ volume_count s.slots
unfolding fill_moves list_all_with_asked
fill_short s g k sound live lacks =
    let c : Column = column s.slots g in
    let fits : Fits c (list_with_asked c (length s.slots) k []) =
    (filled c sound.one_live sound.no_loop (length s.slots) [] k [] (reached_root c k live.there live.is_live lacks) (λ n o p t i h. absurd (not_in_nil p h)) fits_none).fits in
    let e : length (reverse (list_with_asked c (length s.slots) k [])) ≡ length (list_with_asked c (length s.slots) k []) = length-reverse (list_with_asked c (length s.slots) k []) in
    let short : length (list_with_asked c (length s.slots) k []) ≤ volume_count s.slots = fits_short s.slots g _ fits in
    omega arith

-- a lane in which a slot can be filled
pub record CanFillHere (v : LaneView) (slot number place : ℕ) : Type 0 where
  pub can : (told : LaneTold) × (k : ℕ) × IsLaneOf v told × IsFill (of v) told slot number k
  pub ready : IsReady v
  pub place_is : place ≡ number / v.lanes

module _ (v : LaneView) (slot number place : ℕ) (w : CanFillHere v slot number place) where
  abbrev told : LaneTold
  told = w.can.0

  abbrev k : ℕ
  k = w.can.1

  abbrev stands : IsLaneOf v told
  stands = w.can.2

  abbrev fill : IsFill (of v) told slot number k
  fill = w.can.3

  -- the chains can plan it
  pub fill_planned : (number % v.chains.lanes ≡ v.chains.lane) × CanFill v.chains.sheet.slots (number / v.chains.lanes) slot
  fill_planned =
      let p = stands.parts in
      let here : CanFill told.sheet.slots (number / v.lanes) slot = record { place = k; there = fill.place; is_live = fill.live.is_live; lacks = fill.lacks } in (
        (λ i. number % p.lanes_are i) ∙ (fill.of_lane ∙ sym p.lane_is),
        subst (λ (s : Sheet). CanFill s.slots (number / v.chains.lanes) slot) (sym p.sheet_is) (subst (λ (z : ℕ). CanFill told.sheet.slots (number / z) slot) (sym p.lanes_are) here),
      )

  module _ (plan : List Move) (plan_is : plan ≡ moves_of_named v.chains.sheet.slots (number / v.chains.lanes) number (birth_place v.chains.sheet.slots slot)) where
    pub plan_of : (told' : LaneTold) (k' : ℕ) → IsLaneOf v told' → IsFill (of v) told' slot number k' → plan ≡ map (move_at told'.sheet.slots (number / v.lanes) number) (fill_moves (column told'.sheet.slots (number / v.lanes)) k')
    plan_of told' k' s f =
        let p = s.parts in
        plan_is
        ∙ ((λ i. moves_of_named (p.sheet_is i).slots (number / p.lanes_are i) number (birth_place (p.sheet_is i).slots slot))
        ∙ ap (moves_of_named told'.sheet.slots (number / v.lanes) number) f.place)

    plan_short : length plan ≤ volume_count v.chains.sheet.slots
    plan_short =
        let ks : List ℕ = fill_moves (column told.sheet.slots (number / v.lanes)) k in
        let e : length plan ≡ length ks = ap (length {A = Move}) (plan_of told k stands fill) ∙ length-map ks (move_at told.sheet.slots (number / v.lanes) number) in
        let short : length ks ≤ volume_count told.sheet.slots = fill_short told.sheet (number / v.lanes) k stands.parts.beside.stands.sound fill.live fill.lacks in
        let same = count_told v told stands in
        omega arith

    pub fill_room : HasRoom v (length plan)
    fill_room = room_for v w.ready (length plan) plan_short

    pub fill_some : 0 < v.entry_room
    fill_some = some_room v w.ready told k stands fill.live.there fill.live.is_live

    pub runs : (told' : LaneTold) (k' : ℕ) (s : IsLaneOf v told') → IsFill (of v) told' slot number k' → CanMakeMoves (of v) told' number (fill_moves (column told'.sheet.slots (number / v.lanes)) k') v.chains v.grains
    runs told' k' s f = record {
      at = stands_at v told' s;
      of_lane = f.of_lane;
      run = steps_law_holds.fill (of v) told' number k' s.parts.beside.stands.sound f.live f.lacks;
    }

    pub fill_can : (l : LaneOf) × (told' : LaneTold) × (n : ℕ) × (ks : List ℕ) × CanMakeMoves l told' n ks v.chains v.grains × (plan ≡ map (move_in (spot_at l told' n)) ks) × (place ≡ place_of l n)
    fill_can = (of v, told, number, fill_moves (column told.sheet.slots (number / v.lanes)) k, runs told k stands fill, plan_of told k stands fill, w.place_is)

    pub has_filled : (new : LaneView) (moves : List Move) (calls : ℕ) (stop : Option Stop) → SameBeside v new → new.plan_room ≡ v.plan_room →
        ((l : LaneOf) (told' : LaneTold) (n : ℕ) (ks : List ℕ) → CanMakeMoves l told' n ks v.chains v.grains → plan ≡ map (move_in (spot_at l told' n)) ks → place ≡ place_of l n →
        StepsEnd (spot_at l told' n) (map (step_of_move (spot_at l told' n)) ks) moves calls stop v.grains new.grains × StepsStand l told' None moves calls (torn_in stop) v.chains v.grains new.chains new.grains) →
        HasFilled v slot number moves calls stop new
    has_filled new moves calls stop b room ends = record {
      beside = b;
      plan_room = room;
      ends = λ told' k' s f. ends (of v) told' number (fill_moves (column told'.sheet.slots (number / v.lanes)) k') (runs told' k' s f) (plan_of told' k' s f) w.place_is;
    }
