-- What a lane answered leads on.
use Rattle.std.proofs.Common.{◌≡◌, ℕ, ◌+◌, ◌-◌, ◌%◌, ◌^◌, ◌<◌, Bool, true, false, refl, ◌∙◌, sym, ap, subst, arith}
use Rattle.fc_base.specs.declared.request.Request.{Request}
use Rattle.fc_base.specs.declared.size.GrainSize.{GrainSize}
use Rattle.fc_entry.specs.Picture.{grain_of_block}
use Rattle.fc_entry.specs.declared.entry.Entry.{Entry}
use Rattle.fc_follow.specs.Following.{Followed, followed_entry}
use Rattle.fc_lane.specs.Lane.{LaneView, IsFollowing, of}
use Rattle.fc_lanes.specs.Asking.{request_of}
use Rattle.fc_lanes.specs.declared.access.Access.{Access}
use Rattle.fc_legal.specs.Asked.{first_in, end_in}
use Rattle.fc_legal.specs.Steps.{IsInside}
use Rattle.fc_legal.specs.Whole.{lanes, lane_of_grain, lane_at, part_at, followed_at}
use Rattle.fc_parts.specs.Law.{IsInVolume, IsOfLane}
use Rattle.fc_rules.specs.LaneFits.{FitsPart}
use Rattle.fc_rules.specs.LaneRight.{IsRightInLane}
use Rattle.fc_rules.specs.LaneTold.{LaneOf}
use Rattle.fc_shares.specs.Law.{KeepsLane, LaneLeads}
use Rattle.fc_shares.specs.Situation.{Situation, HasLane, IsSound}
use Rattle.fc_shares.proofs.Lawful.{share_law_holds}
use Rattle.fc_stands.proofs.Turning.{IsInGrain, inside_of, is_in_grain, is_inside}
use Rattle.fc_actors.specs.Spans.{IsSpanOf, turn_of}
use Rattle.fc_actors.specs.declared.span.Span.{Span}

-- Whatever a lane answered rightly of what it was told.
leads_on : (first s : Situation) (i : ℕ) (opening old new : LaneView) (request : Request) (entry : Entry) → IsSound first s → HasLane s i opening old →
    IsOfLane first.grain first.whole i request → IsInVolume first.grain first.whole request → entry.request ≡ request →
    IsRightInLane (of old) (part_at s.grain s.whole i) entry × IsFollowing new (followed_entry (of old) (followed_at s.grain s.whole i) entry) →
    KeepsLane entry.calls old new → entry.calls < 2 ^ 32 → LaneLeads first s i opening new entry
leads_on first s i opening old new request entry sound has of_lane inside asked right keeps few =
    let law = share_law_holds in let at : of old ≡ lane_at s.grain s.whole i = law.place s i opening old has in
    let P : LaneOf → Type 0 = λ l. IsRightInLane l (part_at s.grain s.whole i) entry in
    let Q : LaneOf → Type 0 = λ l. IsFollowing new (followed_entry l (followed_at s.grain s.whole i) entry) in
    let R : Request → Type 0 = λ r. IsOfLane s.grain s.whole i r in
    let S : Request → Type 0 = λ r. IsInVolume s.grain s.whole r in
    law.lane first s i opening old new entry sound has (subst R (sym asked) (law.of_lane first s i request sound of_lane)) (subst S (sym asked) (law.in_volume first s request sound inside))
    (subst P at right.0) (subst Q at right.1) keeps (omega (arith, few))

module _ (first s : Situation) (i : ℕ) (opening old : LaneView) (sound : IsSound first s) (has : HasLane s i opening old) where
  -- the blocks of the next grain
  module _ (span : Span) (is : IsSpanOf first span) (place : i ≡ span.next % lanes first.whole) (size : GrainSize) (same_size : size ≡ first.grain) (block count : ℕ) (block_is : block ≡ first_in size span.block span.next)
      (count_is : count ≡ end_in size (span.block + span.count) span.next - block) where
    blocks : IsInGrain first.grain block count span.next
    blocks = let g = is.touched span.next (omega arith) is.left in is_in_grain first.grain size span.block span.count span.next block count same_size block_is count_is is.some g.begins g.ends

    pub in_place : lane_of_grain first.whole (grain_of_block first.grain block) ≡ i
    in_place = ap (λ (n : ℕ). n % lanes first.whole) blocks.of_grain ∙ sym place

    pub inside : IsInside first.grain first.whole.books.tables span.volume block count
    inside = is_inside first.grain first.whole span.volume is.volume block count span.next is.there is.named blocks (is.touched span.next (omega arith) is.left).within

    pub fits : FitsPart (of old) (part_at s.grain s.whole i) span.volume block count
    fits = share_law_holds.fits first s i opening old span.volume block count sound has inside in_place

    pub access_leads : (new : LaneView) (entry : Entry) (actor : ℕ) → entry.request ≡ request_of span.access span.volume block count
        → ((f : Followed) → IsFollowing old f → FitsPart (of old) f.told span.volume block count → IsRightInLane (of old) f.told entry × IsFollowing new (followed_entry (of old) f entry))
        → KeepsLane entry.calls old new → entry.calls < 2 ^ 32 → LaneLeads first s i opening new entry
    access_leads new entry actor asked right keeps few =
        leads_on first s i opening old new (request_of span.access span.volume block count) entry sound has (of_it span.access) (inside_of first.grain first.whole span.access span.volume block count inside) asked
        (right (followed_at s.grain s.whole i) has.stands.stands fits) keeps few
      where
        of_it : (access : Access) → IsOfLane first.grain first.whole i (request_of access span.volume block count)
        of_it Rattle.fc_lanes.specs.declared.access.Access.TheVariants.Read = (grain_of_block first.grain block, refl, in_place)
        of_it (Rattle.fc_lanes.specs.declared.access.Access.TheVariants.Write byte) = (grain_of_block first.grain block, refl, in_place)

  pub turn_leads : (cleans : Bool) (new : LaneView) (entry : Entry) → entry.request ≡ turn_of cleans old.lane
      → ((f : Followed) → IsFollowing old f → IsRightInLane (of old) f.told entry × IsFollowing new (followed_entry (of old) f entry))
      → KeepsLane entry.calls old new → entry.calls < 2 ^ 32 → LaneLeads first s i opening new entry
  turn_leads cleans new entry asked right keeps few =
      leads_on first s i opening old new (turn_of cleans old.lane) entry sound has (of_it cleans) (in_it cleans) asked (right (followed_at s.grain s.whole i) has.stands.stands) keeps few
    where
      of_it : (b : Bool) → IsOfLane first.grain first.whole i (turn_of b old.lane)
      of_it true = has.stands.lane
      of_it false = has.stands.lane

      in_it : (b : Bool) → IsInVolume first.grain first.whole (turn_of b old.lane)
      in_it true = tt
      in_it false = tt
