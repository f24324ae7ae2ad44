-- The law of shares: how entries lead from one situation to the next, and what each part then has of it.
use Rattle.std.specs.Prelude.{◌≡◌, ◌≢◌, ℕ, suc, ◌+◌, ◌^◌, ◌<◌, ◌≤◌, List, [], ◌∷◌, length, slice_index_or}
use Rattle.fc_base.specs.declared.fault.Refusal.{Refusal}
use Rattle.fc_base.specs.declared.ids.VolId.{VolId}
use Rattle.fc_base.specs.declared.request.Place.TheVariants.{Control as UnderControl}
use Rattle.fc_base.specs.declared.request.Reply.TheVariants.{Refused}
use Rattle.fc_base.specs.declared.request.Request.{Request}
use Rattle.fc_desk.specs.Control.{ControlState}
use Rattle.fc_entry.specs.Picture.{grain_of_block}
use Rattle.fc_entry.specs.declared.entry.Entry.{Entry}
use Rattle.fc_follow.specs.Following.{followed_entry}
use Rattle.fc_lane.specs.Lane.{LaneView, IsFollowing, IsSameLane, KeepsQuiet, of}
use Rattle.fc_lanes.specs.AllLanes.{EachLane}
use Rattle.fc_legal.specs.Legal.{AreSteps}
use Rattle.fc_legal.specs.Steps.{IsInside, Step}
use Rattle.fc_legal.specs.Whole.{Whole, lanes, lane_of_grain, lane_at, part_at, followed_at}
use Rattle.fc_parts.specs.Law.{IsInVolume, IsOfLane}
use Rattle.fc_rules.specs.LaneFits.{FitsPart}
use Rattle.fc_rules.specs.LaneRight.{IsRightInLane}
use Rattle.fc_stands.specs.Apart.{IsRefusalOf, entry_apart}
use Rattle.fc_stands.specs.Arming.{SetsNothing}
use Rattle.fc_stands.specs.Quiet.{KeepsNear}
use Rattle.fc_stands.specs.Store.{StandsFor, StoreView}
use Rattle.fc_shares.specs.Situation.{Situation, HasControl, HasLane, IsSound, LeadsTo}

-- The situation that a store stands for.
abbrev pub situation_of : StoreView → Whole → Situation
situation_of store w = record { grain = store.control.grain; whole = w }

-- Each part of a store has its share of it.
pub record Opens (store : StoreView) (w : Whole) : Type 0 where
  pub sound : IsSound (situation_of store w) (situation_of store w)
  pub control : HasControl (situation_of store w) store.control
  pub each : (i : ℕ) (d : LaneView) → i < length store.lanes →
      HasLane (situation_of store w) i (slice_index_or store.lanes i d) (slice_index_or store.lanes i d)

-- All parts have their shares of a situation, each lane since it began as the one at its place.
pub record HaveShares (first s : Situation) (openings : List LaneView) (store : StoreView) : Type 0 where
  pub sound : IsSound first s
  pub control : HasControl s store.control
  pub count : length store.lanes ≡ lanes s.whole
  pub each : (i : ℕ) (d : LaneView) → i < length store.lanes →
      HasLane s i (slice_index_or openings i d) (slice_index_or store.lanes i d)

-- An entry that a lane made leads on: the lane as it now is has its share of what comes next, and so has every other part that
-- had its own.
pub record LaneLeads (first s : Situation) (i : ℕ) (opening v : LaneView) (entry : Entry) : Type 0 where
  pub next : Situation
  pub leads : LeadsTo s s.whole.entries entry next
  pub sound : IsSound first next
  pub counted : next.whole.entries ≡ s.whole.entries + 1
  pub lane : HasLane next i opening v
  pub control : (c : ControlState) → HasControl s c → HasControl next c
  pub others : (j : ℕ) (other now : LaneView) → j ≢ i → HasLane s j other now → HasLane next j other now

-- An entry that speaks of no disk leads on: every part that had its share has it.
pub record ApartLeads (first s : Situation) (entry : Entry) : Type 0 where
  pub next : Situation
  pub leads : LeadsTo s s.whole.entries entry next
  pub sound : IsSound first next
  pub counted : next.whole.entries ≡ s.whole.entries + 1
  pub control : (c : ControlState) → HasControl s c → HasControl next c
  pub each : (j : ℕ) (other now : LaneView) → HasLane s j other now → HasLane next j other now

-- The entry of a refused access or of an unread line, by any actor.
abbrev pub refused_entry : ℕ → Request → Refusal → Entry
refused_entry actor request refusal = entry_apart 0 actor UnderControl request (Refused refusal) []

-- A lane stays the lane that it is, none of its disks fails where none could, and no fault is armed: each comes nearer by so many
-- calls at most.
abbrev pub KeepsLane : ℕ → LaneView → LaneView → Type 0
KeepsLane calls old new = IsSameLane old new × KeepsQuiet old new × KeepsNear calls old new

-- A command's entry leads on, and all parts as they now are have their shares of what comes next.
pub record AllLead (first s : Situation) (openings : List LaneView) (store : StoreView) (entry : Entry) : Type 0 where
  pub next : Situation
  pub leads : LeadsTo s s.whole.entries entry next
  pub counted : next.whole.entries ≡ s.whole.entries + 1
  pub shares : HaveShares first next openings store

-- Entries, numbered from n on, lead from one situation to another.
abbrev pub LeadOn : Situation → ℕ → List Entry → Situation → Type 0
LeadOn s n [] last = last ≡ s
LeadOn s n (entry ∷ entries) last = (next : Situation) × LeadsTo s n entry next × LeadOn next (suc n) entries last

-- The entries with their numbers, from n on.
abbrev pub numbered : ℕ → List Entry → List Entry
numbered n [] = []
numbered n (entry ∷ entries) = record entry { number = n } ∷ numbered (suc n) entries

pub record ShareLaw : Type 0 where
  -- a store that stands for what is told is opened on it
  pub opening : (store : StoreView) (w : Whole) → StandsFor store w → Opens store w
  -- and parts that have their shares make a store that stands for what is told
  pub closing : (first s : Situation) (openings : List LaneView) (store : StoreView) →
      HaveShares first s openings store → StandsFor store s.whole
  -- what a lane answered rightly leads on, with whatever number
  pub lane : (first s : Situation) (i : ℕ) (opening old new : LaneView) (entry : Entry) →
      IsSound first s → HasLane s i opening old →
      IsOfLane s.grain s.whole i entry.request → IsInVolume s.grain s.whole entry.request →
      IsRightInLane (lane_at s.grain s.whole i) (part_at s.grain s.whole i) entry →
      IsFollowing new (followed_entry (lane_at s.grain s.whole i) (followed_at s.grain s.whole i) entry) →
      KeepsLane entry.calls old new → entry.calls ≤ 2 ^ 32 →
      LaneLeads first s i opening new entry
  -- so does a refusal
  pub apart : (first s : Situation) (actor : ℕ) (request : Request) (refusal : Refusal) →
      IsSound first s → IsRefusalOf s.grain s.whole request refusal →
      ApartLeads first s (refused_entry actor request refusal)
  -- so does a command that makes and removes no volume, and sets no armed fault
  pub command :
      (first s : Situation) (openings : List LaneView) (old new : StoreView) (entry : Entry) (next : Whole) →
      HaveShares first s openings old →
      Step s.grain s.whole (record entry { number = s.whole.entries }) next → SetsNothing entry.request entry.reply →
      next.entries ≡ s.whole.entries + 1 → next.actors ≡ s.whole.actors →
      next.books.tables.volumes ≡ s.whole.books.tables.volumes →
      StandsFor new next → new.control.grain ≡ old.control.grain → EachLane (KeepsLane 0) old.lanes new.lanes →
      AllLead first s openings new entry
  -- entries that lead on are steps of the history, by their numbers
  pub steps : (s last : Situation) (n : ℕ) (entries : List Entry) →
      LeadOn s n entries last → AreSteps s.grain s.whole (numbered n entries) last.whole
  -- a lane that has its share is the one at its place, among as many as it told when it began
  pub place : (s : Situation) (i : ℕ) (opening v : LaneView) →
      HasLane s i opening v → of v ≡ lane_at s.grain s.whole i
  pub count : (s : Situation) (i : ℕ) (opening v : LaneView) → HasLane s i opening v → lanes s.whole ≡ opening.lanes
  -- and still has it once room was made in it
  pub ready : (s : Situation) (i : ℕ) (opening old new : LaneView) → HasLane s i opening old →
      new ≡ record old { plan_room = new.plan_room; entry_room = new.entry_room } →
      HasLane s i opening new
  -- what was of a lane, inside its volume or refused by what was told first, is so whatever entries came since
  pub of_lane : (first s : Situation) (i : ℕ) (request : Request) → IsSound first s →
      IsOfLane first.grain first.whole i request → IsOfLane s.grain s.whole i request
  pub in_volume : (first s : Situation) (request : Request) → IsSound first s →
      IsInVolume first.grain first.whole request → IsInVolume s.grain s.whole request
  pub refused : (first s : Situation) (request : Request) (refusal : Refusal) → IsSound first s →
      IsRefusalOf first.grain first.whole request refusal → IsRefusalOf s.grain s.whole request refusal
  -- and an access that was inside its volume fits the lane of its grain
  pub fits :
      (first s : Situation) (i : ℕ) (opening v : LaneView) (volume : VolId) (block count : ℕ) →
      IsSound first s → HasLane s i opening v →
      IsInside first.grain first.whole.books.tables volume block count →
      lane_of_grain first.whole (grain_of_block first.grain block) ≡ i →
      FitsPart (of v) (part_at s.grain s.whole i) volume block count
