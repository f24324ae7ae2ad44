-- The law of entries: what is right in a lane goes neither by an entry's number nor by its actor.
use Rattle.std.specs.Prelude.{ℕ}
use Rattle.fc_entry.specs.declared.entry.Entry.{Entry}
use Rattle.fc_rules.specs.LaneRight.{IsRightInLane}
use Rattle.fc_rules.specs.LaneTold.{LaneOf, LaneTold}

pub record EntriesLaw : Type 0 where
  -- an entry that is right in its lane, whatever the lane was told, is right there with any number and by any actor
  pub marked : (l : LaneOf) (told : LaneTold) (entry : Entry) (number actor : ℕ) → IsRightInLane l told entry →
      IsRightInLane l told (record entry { number = number; actor = actor })
