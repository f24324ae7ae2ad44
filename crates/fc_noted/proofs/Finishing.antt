-- The entry of steps that are over is right, the history leads on with it, and the store stands for what it leaves.
use Rattle.std.proofs.Common.{◌≡◌, ℕ, ◌≤◌, ◌^◌, None, List, [], ◌∷◌, ◌++◌, slice_set, refl, sym, subst, ◌∙◌}
use Rattle.fc_base.specs.declared.request.Place.TheVariants.{Every, Lane as LaneAt}
use Rattle.fc_base.specs.declared.request.Request.{Request}
use Rattle.fc_base.specs.declared.size.GrainSize.{GrainSize}
use Rattle.fc_changed.specs.Row.{Row}
use Rattle.fc_entry.specs.HistoryState.{HistoryState}
use Rattle.fc_entry.specs.Picture.{grain_of_block}
use Rattle.fc_entry.specs.declared.entry.Entry.{Entry}
use Rattle.fc_follow.specs.Following.{followed_entry, rows_entry}
use Rattle.fc_kept.specs.Marks.{least_entry}
use Rattle.fc_lane.specs.Doing.{FitsAsk}
use Rattle.fc_lane.specs.Entering.{HasFollowed}
use Rattle.fc_lane.specs.Lane.{IsFollowing, LaneView, of}
use Rattle.fc_legal.specs.Steps.{Step, after_access}
use Rattle.fc_legal.specs.Whole.{Whole, followed_at, lane_at, lane_of_grain, part_at, single_lane}
use Rattle.fc_marks.specs.Marks.{marked}
use Rattle.fc_noted.specs.Noted.{IsDoing}
use Rattle.fc_noted.specs.declared.noted.Noted.{Noted}
use Rattle.fc_noted.specs.declared.noted.UnderWay.{UnderWay}
use Rattle.fc_noted.proofs.InHand.{at_lane, hand_none}
use Rattle.fc_parts.specs.Law.{IsInVolume, IsOfLane}
use Rattle.fc_rules.specs.LaneRight.{IsRightInLane}
use Rattle.fc_rules.specs.LaneTold.{LaneOf}
use Rattle.fc_stands.specs.Store.{IsLaneAt, StandsFor}
use Rattle.fc_stands.proofs.Accessing.{access_stands, access_step}
use Rattle.fc_steps.specs.Asking.{request_of}
use Rattle.fc_steps.specs.UnderWay.{next_of}
use Rattle.fc_steps.specs.declared.ask.Ask.{Ask}
use Rattle.fc_steps.specs.declared.ask.Ask.TheVariants.{Write, Copy, Clean}
use Rattle.fc_steps.specs.declared.stepping.Next.TheVariants.{Over}
use Rattle.fc_store.specs.Stepping.{lane_in}
use Rattle.law_crash.specs.Doing.{number_of}
use Rattle.law_noted.specs.DataSteps.{IsInHand}
use Rattle.law_noted.specs.Going.{IsEntryOf, marks_left, volume_noted}
use Rattle.law_noted.specs.Runs.{HasRun}
use Rattle.law_noted.proofs.DataInHand.{fits_here, lane_is_of}
use Rattle.law_noted.proofs.HandEnds.{rows_on, runs_on}

-- what is asked is of the lane of its grain
of_lane : (grain : GrainSize) (w : Whole) (place : ℕ) (ask : Ask) → lane_of_grain w (number_of grain (request_of ask)) ≡ place → IsOfLane grain w place (request_of ask)
of_lane grain w place (Write part) e = (grain_of_block grain part.block, refl, e)
of_lane grain w place (Copy m g) e = (g.0, refl, e)
of_lane grain w place (Clean m g) e = (g.0, refl, e)

module _ {C D : Type 0} (seen : D → List ℕ) (may_leave : D → List ℕ → Type 0) (n : Noted C D) (way : UnderWay) (history : HistoryState) (w : Whole) (least : List Row) (d : IsDoing seen may_leave n way history w least)
    (none : way.due ≡ None) (over : next_of way.doing.steps ≡ Over) (entry : Entry) (new : LaneView) (x : IsEntryOf way.doing entry)
    (f : HasFollowed (lane_in d.begun way.place) (FitsAsk (of (lane_in d.begun way.place)) way.doing.steps.ask) way.doing.number way.doing.actor (request_of way.doing.steps.ask) entry new) where
  abbrev grain : GrainSize
  grain = d.begun.control.grain

  abbrev place : ℕ
  place = way.place

  abbrev lane : LaneView
  lane = lane_in d.begun way.place

  abbrev next : Whole
  next = after_access d.begun.control.grain w way.place entry

  hand : IsInHand d.begun.control.grain w least way.place way.doing (lane_in d.begun way.place) (lane_in n.store way.place) d.steps d.before None d.point
  hand = hand_none seen may_leave n way history w least d none

  at : IsLaneAt d.begun.control.grain w way.place (lane_in d.begun way.place)
  at = at_lane seen may_leave n way history w least d

  both : IsRightInLane (lane_at grain w place) (part_at grain w place) entry × IsFollowing new (followed_entry (lane_at grain w place) (followed_at grain w place) entry)
  both =
      let y = f.right (followed_at grain w place) at.stands (fits_here grain w least place way.doing lane (lane_in n.store way.place) d.steps d.before d.point hand) in
      subst (λ (l : LaneOf). IsRightInLane l (part_at grain w place) entry × IsFollowing new (followed_entry l (followed_at grain w place) entry)) hand.lane_is y

  pub not_of_all : entry.place ≡ Every → ⊥
  not_of_all e = absurd (let no : Every ≡ LaneAt (lane_at grain w place).lane = sym e ∙ both.0.place in cc)

  is_of : IsOfLane grain w place entry.request
  is_of = subst (λ (r : Request). IsOfLane grain w place r) (sym x.request) (of_lane grain w place way.doing.steps.ask (lane_is_of grain w least place way.doing lane (lane_in n.store way.place) d.steps d.before d.point hand))

  pub is_right : Step d.begun.control.grain w entry (after_access d.begun.control.grain w way.place entry)
  is_right =
      access_step grain d.told.0.decisions w place entry d.told.0.stands hand.inside is_of (subst (λ (r : Request). IsInVolume grain w r) (sym x.request) d.in_volume) both.0
      (f.asked.number_is ∙ (d.number ∙ sym d.told.1.entries))

  -- with its calls counted, the store that stood when it began stands with the lane as it is then
  pub store_stands : entry.calls ≤ 2 ^ 32 → StandsFor (record d.begun { lanes = slice_set d.begun.lanes way.place new }) (after_access d.begun.control.grain w way.place entry)
  store_stands few =
      access_stands d.begun w place entry new d.told.0 hand.inside is_of both.0 (f.same.lane ∙ at.lane, f.same.lanes ∙ at.lanes_are, f.same.grain ∙ at.grain_is) both.1 few

  -- the history led to the point
  pub runs : HasRun d.begun.control.grain (history.entries ++ entry ∷ []) (after_access d.begun.control.grain w way.place entry) (least_entry (single_lane d.begun.control.grain) least entry) d.point
  runs = runs_on grain w least place way.doing lane (lane_in n.store way.place) d.steps d.before d.point hand over entry x history.entries place d.run is_right

  -- and the rows of metadata are those of the history with it, but for other writes that are marked
  pub rows : d.point.kept.rows ≡ marked (marks_left (volume_noted way.doing.steps) way.doing.steps.grain n.marks.items) (rows_entry (single_lane d.begun.control.grain) w.rows entry)
  rows = rows_on grain w least place way.doing lane (lane_in n.store way.place) d.steps d.before d.point hand over entry x n.marks.items d.keeps.rows
