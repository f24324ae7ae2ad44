-- What is known of the one grain that a stop may find otherwise: it is as it was, or it has what a step of the entry writes.
use Rattle.std.specs.Prelude.{ℕ, if◌then◌else◌, List, Contains, Option, Some, None}
use Rattle.fc_base.specs.declared.request.Request.{Request}
use Rattle.fc_base.specs.declared.size.GrainSize.{GrainSize}
use Rattle.fc_changed.specs.Row.{Row}
use Rattle.fc_entry.specs.Picture.{Content, Lost}
use Rattle.fc_kept.specs.Disks.{NamedDisk}
use Rattle.fc_kept.specs.Kept.{Kept, is_lost_in}
use Rattle.fc_kept.specs.OneGrain.{Another}
use Rattle.fc_kept.specs.Prefix.{AreStepsOf}
use Rattle.fc_kept.specs.Recoverable.{Recoverable}
use Rattle.fc_legal.specs.Whole.{Whole}
use Rattle.fc_rules.specs.Steps.{DiskStep}
use Rattle.law_crash.specs.Doing.{content_of, number_of}

-- One of the steps of a request.
pub record IsAmongSteps (grain : GrainSize) (w : Whole) (request : Request) (step : DiskStep) : Type 0 where
  pub steps : List DiskStep
  pub are : AreStepsOf grain w request steps
  pub among : Contains steps step

-- The grain that a step writes, with this content.
abbrev pub grain_of_step : GrainSize → Request → DiskStep → Content → Another
grain_of_step grain request step content = record { volume = step.volume; grain = number_of grain request; content = content }

-- A grain that was lost is lost until a record says otherwise.
abbrev pub unless_lost : Kept → ℕ → ℕ → Content → Content
unless_lost k v g content = if is_lost_in k.lost v g then Lost else content

-- Every grain is as it was; or the grain of one step of the request has what the step writes; or, where a write failed, any bytes.
pub data IsOldOrNew (grain : GrainSize) (w : Whole) (k : Kept) (AWriteFailed : Type 0) : Option Request → Option Another → Type 0 where
  old : (asked : Option Request) → IsOldOrNew grain w k AWriteFailed asked None
  new : (request : Request) (step : DiskStep) → IsAmongSteps grain w request step →
      IsOldOrNew grain w k AWriteFailed (Some request)
      (Some (grain_of_step grain request step (unless_lost k step.volume (number_of grain request) (content_of grain w request step))))
  torn : (request : Request) (step : DiskStep) (content : Content) → IsAmongSteps grain w request step → AWriteFailed →
      IsOldOrNew grain w k AWriteFailed (Some request) (Some (grain_of_step grain request step content))

-- What stands may be recovered, and at most that one grain is otherwise.
pub record IsSafe (grain : GrainSize) (disks : List (List NamedDisk)) (k : Kept) (w : Whole) (least : List Row) (asked : Option Request) (AWriteFailed : Type 0) : Type 0 where
  pub one : Option Another
  pub recoverable : Recoverable grain disks k w least asked one
  pub one_is : IsOldOrNew grain w k AWriteFailed asked one
