-- When an entry of a lane may come next after what a history tells.
use Rattle.fc_base.specs.declared.request.Request.{Request}
use Rattle.fc_base.specs.declared.request.Request.TheVariants.{Command, Unread}
use Rattle.fc_base.specs.declared.size.GrainSize.{GrainSize}
use Rattle.fc_entry.specs.declared.entry.Entry.{Entry}
use Rattle.fc_legal.specs.Steps.{Step}
use Rattle.fc_legal.specs.Whole.{Whole}

-- What lanes are asked: all but commands and faulty lines.
abbrev pub IsOfLanes : Request → Type 0
IsOfLanes (Command command) = ⊥
IsOfLanes (Unread fault) = ⊥
IsOfLanes request = Unit {0}

-- An entry of a lane that is right after what was told, whatever is told after it.
pub record IsNext (grain : GrainSize) (w : Whole) (entry : Entry) : Type 0 where
  pub of_lanes : IsOfLanes entry.request
  pub next : Whole
  pub step : Step grain w entry next
