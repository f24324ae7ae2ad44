-- Events that fit a lane, and what follows.
use Rattle.std.proofs.Common.{◌≡◌, List, fold, sym, ap, subst, ◌∙◌}
use Rattle.fc_base.specs.declared.decision.LaneEvent.{LaneEvent}
use Rattle.fc_base.specs.declared.ids.VolId.{VolId}
use Rattle.fc_lane.specs.Lane.{LaneView, IsFollowing, IsSameLane, of}
use Rattle.fc_follow.specs.Following.{FitsFollowed, Followed, followed_event}
use Rattle.fc_rules.specs.LaneFits.{FitsPart}
use Rattle.fc_rules.specs.LaneTold.{LaneOf}
use Rattle.lane_tests.specs.First.{the_lane, told_after}

pub same_of : (v v' : LaneView) → IsSameLane v v' → of v ≡ the_lane → of v' ≡ the_lane
same_of v v' s is = (λ k. record { lane = s.lane k; lanes = s.lanes k; grain = s.grain k }) ∙ is

-- ---- by events

abbrev pub Fit : LaneOf → LaneView → List LaneEvent → Type 0
Fit l v events = (f : Followed) × IsFollowing v f × FitsFollowed l f events

-- where events lead
abbrev pub Leads : LaneOf → LaneView → List LaneEvent → LaneView → Type 0
Leads l v events v' = (f : Followed) → IsFollowing v f → FitsFollowed l f events → IsFollowing v' (fold (followed_event l) f events)

pub fits_now : (v : LaneView) (events : List LaneEvent) → of v ≡ the_lane → Fit the_lane v events → Fit (of v) v events
fits_now v events is fit = subst (λ (l : LaneOf). Fit l v events) (sym is) fit

pub leads_now : (v v' : LaneView) (events : List LaneEvent) → of v ≡ the_lane → Leads (of v) v events v' → Leads the_lane v events v'
leads_now v v' events is leads = subst (λ (l : LaneOf). Leads l v events v') is leads

module _ (v : LaneView) (f : Followed) (events es : List LaneEvent) (i : IsFollowing v f) (is : events ≡ es) (fits : FitsFollowed the_lane f es) where
  pub can_do : Fit the_lane v events
  can_do = (f, i, subst (λ (z : List LaneEvent). FitsFollowed the_lane f z) (sym is) fits)

  pub has_done : (v' : LaneView) → Leads the_lane v events v' → IsFollowing v' (told_after f es)
  has_done v' leads = subst (λ (z : List LaneEvent). Leads the_lane v z v') is leads f i fits

-- ---- a part

abbrev pub FitPart : LaneOf → LaneView → VolId → Type 0
FitPart l v volume = (f : Followed) × IsFollowing v f × FitsPart l f.told volume 0 1

-- room changes nothing
pub part_now : (v v' : LaneView) (volume : VolId) → of v ≡ the_lane → v' ≡ record v { plan_room = v'.plan_room; entry_room = v'.entry_room } → FitPart the_lane v volume → FitPart (of v') v' volume
part_now v v' volume is same (f, i, fits) =
    let roomy : LaneView = record v { plan_room = v'.plan_room; entry_room = v'.entry_room } in
    let there : IsFollowing roomy f = record { lane = record { parts = i.lane.parts; faults = i.lane.faults; calls = i.lane.calls }; rows = i.rows; alike = i.alike; rooms = i.rooms } in
    (f, subst (λ (w : LaneView). IsFollowing w f) (sym same) there, subst (λ (l : LaneOf). FitsPart l f.told volume 0 1) (sym (ap of same ∙ is)) fits)
