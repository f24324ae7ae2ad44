-- The law of parts: what lanes do to their grains, one by one, is what happens to all grains.
use Rattle.std.specs.Prelude.{◌≡◌, ◌≢◌, ℕ, ◌<◌, List, fold, length}
use Rattle.fc_base.specs.Pools.{Pool}
use Rattle.fc_base.specs.declared.decision.Decision.{Decision}
use Rattle.fc_base.specs.declared.ids.VolId.{VolId}
use Rattle.fc_base.specs.declared.request.Request.{Request}
use Rattle.fc_base.specs.declared.request.Request.TheVariants.{Read, Write, Copy, Clean, CopyTurn, CleanTurn}
use Rattle.fc_base.specs.declared.size.GrainSize.{GrainSize}
use Rattle.fc_entry.specs.Picture.{grain_of_block}
use Rattle.fc_entry.specs.declared.entry.Entry.{Entry}
use Rattle.fc_follow.specs.Following.{FitsFollowed, followed_event, followed_entry}
use Rattle.fc_legal.specs.Steps.{IsInside, RequestStep, after_access, left_by}
use Rattle.fc_legal.specs.Lawful.{IsLawful}
use Rattle.fc_legal.specs.Stands.{Stands}
use Rattle.fc_legal.specs.Whole.{Whole, opened, lanes, lane_of_grain, lane_at, part_at, followed_at, pool_at}
use Rattle.fc_rules.specs.LaneFits.{FitsPart}
use Rattle.fc_rules.specs.LaneRight.{IsRightInLane}
use Rattle.fc_rules.specs.LaneTold.{nothing_told}

-- An access is at this grain.
abbrev pub IsAt : GrainSize → ℕ → Request → Type 0
IsAt grain number (Read part) = grain_of_block grain part.block ≡ number
IsAt grain number (Write part) = grain_of_block grain part.block ≡ number
IsAt grain number (Copy m g) = g.0 ≡ number
IsAt grain number (Clean m g) = g.0 ≡ number
IsAt grain number request = ⊥

-- What a lane is asked: a worker's turn in it, or an access at one of its grains.
abbrev pub IsOfLane : GrainSize → Whole → ℕ → Request → Type 0
IsOfLane grain w i (CopyTurn lane) = lane ≡ i
IsOfLane grain w i (CleanTurn lane) = lane ≡ i
IsOfLane grain w i request = (number : ℕ) × IsAt grain number request × (lane_of_grain w number ≡ i)

-- A read or a write is inside its volume.
abbrev pub IsInVolume : GrainSize → Whole → Request → Type 0
IsInVolume grain w (Read part) = IsInside grain w.books.tables part.volume part.block part.count
IsInVolume grain w (Write part) = IsInside grain w.books.tables part.volume part.block part.count
IsInVolume grain w request = Unit {0}

pub record PartLaw : Type 0 where
  -- with no entry, each lane is told of its pool
  pub opening : (grain : GrainSize) (pools : List Pool) (i : ℕ) → i < length pools →
      part_at grain (opened pools) i ≡ record nothing_told { pool = pool_at pools i }
  -- a decision that is lawful fits each lane, and tells it its part of what the decision leaves
  pub decision : (grain : GrainSize) (decisions : ℕ) (w : Whole) (d : Decision) (i : ℕ) → Stands decisions w → IsLawful grain decisions w d → i < lanes w →
      FitsFollowed (lane_at grain w i) (followed_at grain w i) d.events
      × (fold (followed_event (lane_at grain w i)) (followed_at grain w i) d.events ≡ followed_at grain (left_by grain w d) i)
  -- an entry that is right in its lane is right by all grains
  pub right : (grain : GrainSize) (decisions : ℕ) (w : Whole) (i : ℕ) (entry : Entry) → Stands decisions w → i < lanes w → IsOfLane grain w i entry.request → IsInVolume grain w entry.request →
      IsRightInLane (lane_at grain w i) (part_at grain w i) entry →
      RequestStep grain w entry.request entry (after_access grain w i entry)
  -- it tells its lane its part of what it leaves, and other lanes nothing
  pub told : (grain : GrainSize) (decisions : ℕ) (w : Whole) (i : ℕ) (entry : Entry) → Stands decisions w → i < lanes w → IsOfLane grain w i entry.request →
      IsRightInLane (lane_at grain w i) (part_at grain w i) entry →
      followed_at grain (after_access grain w i entry) i ≡ followed_entry (lane_at grain w i) (followed_at grain w i) entry
  pub others : (grain : GrainSize) (decisions : ℕ) (w : Whole) (i : ℕ) (entry : Entry) (j : ℕ) → Stands decisions w → i < lanes w → IsOfLane grain w i entry.request →
      IsRightInLane (lane_at grain w i) (part_at grain w i) entry → j < lanes w → j ≢ i →
      followed_at grain (after_access grain w i entry) j ≡ followed_at grain w j
  -- and what stood still stands
  pub stands : (grain : GrainSize) (decisions : ℕ) (w : Whole) (i : ℕ) (entry : Entry) → Stands decisions w → i < lanes w → IsOfLane grain w i entry.request →
      IsRightInLane (lane_at grain w i) (part_at grain w i) entry →
      Stands decisions (after_access grain w i entry)
  -- an access inside its volume fits the lane of its grain
  pub fits : (grain : GrainSize) (decisions : ℕ) (w : Whole) (volume : VolId) (block count : ℕ) → Stands decisions w → IsInside grain w.books.tables volume block count →
      FitsPart (lane_at grain w (lane_of_grain w (grain_of_block grain block))) (part_at grain w (lane_of_grain w (grain_of_block grain block))) volume block count
