-- An entry of a lane, or of no lane, leads on to a situation in which all parts have their shares.
use Rattle.std.proofs.Common.{◌≡◌, ◌≢◌, ℕ, ◌^◌, ◌<◌, ◌≤◌, slice_index_or, refl, ◌∙◌, sym, subst, arith}
use Rattle.fc_base.specs.declared.fault.Refusal.{Refusal}
use Rattle.fc_base.specs.declared.request.Request.{Request}
use Rattle.fc_desk.specs.Control.{ControlState}
use Rattle.fc_entry.specs.declared.entry.Entry.{Entry}
use Rattle.fc_follow.specs.Following.{followed_entry}
use Rattle.fc_lane.specs.Lane.{LaneView, IsFollowing, IsSameLane}
use Rattle.fc_legal.specs.Steps.{after_access, one_more}
use Rattle.fc_legal.specs.Whole.{lanes, lane_at, part_at, followed_at}
use Rattle.fc_parts.specs.Law.{IsInVolume, IsOfLane}
use Rattle.fc_parts.proofs.Lawful.{part_law_holds}
use Rattle.fc_parts.proofs.Marked.{right_marked}
use Rattle.fc_rules.specs.LaneRight.{IsRightInLane}
use Rattle.fc_stands.specs.Apart.{IsRefusalOf}
use Rattle.fc_stands.specs.Quiet.{KeepsFaults}
use Rattle.fc_stands.proofs.Accessing.{access_step, few_stay, lane_stands, lanes_stay, other_stands}
use Rattle.fc_stands.proofs.Since.{lane_sets_nothing, refused_sets_nothing}
use Rattle.fc_stands.proofs.OneMore.{lane_still, still_few, still_stands}
use Rattle.fc_stands.proofs.Turning.{by_request}
use Rattle.fc_shares.specs.Law.{ApartLeads, KeepsLane, LaneLeads, refused_entry}
use Rattle.fc_shares.specs.Situation.{Situation, HasControl, HasLane, IsSound}
use Rattle.fc_shares.proofs.Lanes.{faults_by, faults_on, same_on}

-- ---- an entry of a lane

-- The entry with the next number.
abbrev pub next_entry : Situation → Entry → Entry
next_entry s entry = record entry { number = s.whole.entries }

abbrev pub after_lane : Situation → ℕ → Entry → Situation
after_lane s i entry = record { grain = s.grain; whole = after_access s.grain s.whole i (next_entry s entry) }

module _ (first s : Situation) (i : ℕ) (opening old new : LaneView) (entry : Entry) (sound : IsSound first s) (share : HasLane s i opening old)
    (of : IsOfLane s.grain s.whole i entry.request) (inside : IsInVolume s.grain s.whole entry.request)
    (right : IsRightInLane (lane_at s.grain s.whole i) (part_at s.grain s.whole i) entry)
    (now : IsFollowing new (followed_entry (lane_at s.grain s.whole i) (followed_at s.grain s.whole i) entry))
    (keeps : KeepsLane entry.calls old new) (few : entry.calls ≤ 2 ^ 32) where
  right_next : IsRightInLane (lane_at s.grain s.whole i) (part_at s.grain s.whole i) (next_entry s entry)
  right_next = right_marked s.whole.entries entry.actor entry (lane_at s.grain s.whole i) (part_at s.grain s.whole i) right

  same : IsSameLane old new
  same = keeps.0

  faults : KeepsFaults old new
  unfolding part_at
  faults = faults_by old new (slice_index_or s.whole.calls i 0) entry.calls share.stands.stands.lane.calls now.lane.calls keeps.1 keeps.2

  lanes_next : lanes (after_lane s i entry).whole ≡ lanes s.whole
  lanes_next = lanes_stay s.grain s.whole i (next_entry s entry)

  sound_next : IsSound first (after_lane s i entry)
  sound_next = record {
    grain = sound.grain;
    lanes_are = lanes_next ∙ sound.lanes_are;
    actors = sound.actors;
    volumes = sound.volumes;
    decisions = sound.decisions;
    few = omega (arith, sound.few);
    stands = part_law_holds.stands s.grain sound.decisions s.whole i (next_entry s entry) sound.stands share.within of right_next;
    calls = few_stay s.grain s.whole i (next_entry s entry) few sound.calls;
  }

  lane_next : HasLane (after_lane s i entry) i opening new
  lane_next = record {
    within = subst (λ n. i < n) (sym lanes_next) share.within;
    stands =
        lane_stands s.grain sound.decisions s.whole i (next_entry s entry) new sound.stands share.within of right_next
        (same.lane ∙ share.stands.lane, same.lanes ∙ share.stands.lanes_are, same.grain ∙ share.stands.grain_is)
        now;
    same = same_on opening old new share.same same;
    faults = faults_on opening old new share.faults faults;
  }

  control_next : (c : ControlState) → HasControl s c → HasControl (after_lane s i entry) c
  control_next c has = record {
    books = record {
      tables = has.books.tables;
      next_volume = has.books.next_volume;
      next_mapping = has.books.next_mapping;
      next_group = has.books.next_group;
      flags = has.books.flags;
    };
    grain = has.grain;
  }

  others_next : (j : ℕ) (other at : LaneView) → j ≢ i → HasLane s j other at → HasLane (after_lane s i entry) j other at
  others_next j other at apart has = record {
    within = subst (λ n. j < n) (sym lanes_next) has.within;
    stands = other_stands s.grain sound.decisions s.whole i (next_entry s entry) j at sound.stands share.within of right_next has.within apart has.stands;
    same = has.same;
    faults = has.faults;
  }

  pub lane : LaneLeads first s i opening new entry
  lane = record {
    next = after_lane s i entry;
    leads = record {
      step = access_step s.grain sound.decisions s.whole i (next_entry s entry) sound.stands share.within of inside right_next refl;
      grain = refl;
      unset = lane_sets_nothing (lane_at s.grain s.whole i) (part_at s.grain s.whole i) entry.request entry entry.reply right.answers;
    };
    sound = sound_next;
    counted = refl;
    lane = lane_next;
    control = control_next;
    others = others_next;
  }

-- ---- an entry that speaks of no disk

pub apart : (first s : Situation) (actor : ℕ) (request : Request) (refusal : Refusal) → IsSound first s → IsRefusalOf s.grain s.whole request refusal →
    ApartLeads first s (refused_entry actor request refusal)
apart first s actor request refusal sound is = record {
  next = record { grain = s.grain; whole = one_more s.whole };
  leads = record {
    step = record {
      number = refl;
      right = by_request s.grain s.whole (next_entry s (refused_entry actor request refusal)) request refusal is
          record {
            place = refl;
            apart = record { no_moves = refl; untorn = refl; no_calls = refl; no_faults_before = refl; no_faults_after = refl };
            reply = refl;
            no_effects = refl;
            next_is = refl;
          };
    };
    grain = refl;
    unset = refused_sets_nothing request refusal;
  };
  sound = record {
    grain = sound.grain;
    lanes_are = sound.lanes_are;
    actors = sound.actors;
    volumes = sound.volumes;
    decisions = sound.decisions;
    few = omega (arith, sound.few);
    stands = still_stands sound.decisions s.whole sound.stands;
    calls = still_few s.whole sound.calls;
  };
  counted = refl;
  control = λ c has. record { books = has.books; grain = has.grain };
  each = λ j other now has. record { within = has.within; stands = lane_still s.grain s.whole j now has.stands; same = has.same; faults = has.faults };
}
