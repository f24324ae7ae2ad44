-- Actions that were done, and what a stop finds behind them.
use Rattle.std.specs.Prelude.{◌≡◌, List, [], ◌∷◌, ◌++◌, Option, Some, None}
use Rattle.fc_base.specs.Sheet.{Sheet}
use Rattle.fc_base.specs.declared.request.Request.{Request}
use Rattle.fc_base.specs.declared.size.GrainSize.{GrainSize}
use Rattle.fc_entry.specs.Picture.{Content}
use Rattle.fc_image.specs.declared.record.MetaRecord.{MetaRecord}
use Rattle.fc_kept.specs.Actions.{Action, Action.Data, Action.Note, Action.Fold}
use Rattle.fc_kept.specs.Disks.{NamedDisk}
use Rattle.fc_kept.specs.Kept.{sheet_kept}
use Rattle.fc_kept.specs.OneGrain.{Another}
use Rattle.fc_legal.specs.Whole.{Whole}
use Rattle.fc_rules.specs.Steps.{DiskStep}
use Rattle.law_crash.specs.Doing.{Did, Finds, StepWrites, number_of, with_disks}
use Rattle.law_crash.specs.Points.{Point, stored_by}

-- All data have their records behind them.
abbrev pub ArePaired : List Action → Type 0
ArePaired [] = Unit {0}
ArePaired (Note r ∷ rest) = ArePaired rest
ArePaired (Data step ∷ Note r ∷ rest) = ArePaired rest
ArePaired actions = ⊥

-- The store's chains behind actions.
abbrev pub chains_by : Sheet → List Action → Sheet
chains_by chains [] = chains
chains_by chains (Note r ∷ rest) = chains_by (sheet_kept chains r) rest
chains_by chains (action ∷ rest) = chains_by chains rest

-- The one grain whose data are written at a point, and of which no record tells.
abbrev pub one_of : GrainSize → Whole → Request → DiskStep → Point → Another
one_of grain w request step q =
    record {
      volume = step.volume;
      grain = number_of grain request;
      content = stored_by grain w q step.volume (number_of grain request);
    }

pub record ComingLaw : Type 0 where
  -- before each action what stands may be found, as it stands
  pub now : (grain : GrainSize) (w : Whole) (request : Request) (chains : Sheet) (actions : List Action) (q : Point) → Finds grain w request chains actions q None q
  -- what is found behind actions that were done is found of all
  pub behind : (grain : GrainSize) (w : Whole) (request : Request) (chains : Sheet) (front back : List Action) (p q : Point) (one : Option Another) (x : Point) →
      ArePaired front → Did grain w request chains front p q → Finds grain w request (chains_by chains front) back q one x →
      Finds grain w request chains (front ++ back) p one x
  -- and with data of any content, whose record is to come, the grain of these
  pub within : (grain : GrainSize) (w : Whole) (request : Request) (chains : Sheet) (step : DiskStep) (r : MetaRecord) (rest : List Action) (q : Point) (content : Content) (disks : List (List NamedDisk)) →
      StepWrites grain w request step content q.disks disks →
      Finds grain w request chains (Data step ∷ Note r ∷ rest) q (Some (one_of grain w request step (with_disks disks q))) (with_disks disks q)
