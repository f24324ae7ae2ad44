-- At a stop every grain is as it was, or one grain has what a step of the entry writes, or what its failed write left.
use Rattle.std.proofs.Common.{◌≡◌, List, ◌∷◌, ◌++◌, Option, Some, None, Contains, sym, subst}
use Rattle.std.proofs.lemmas.List.Elements.{Contains-append_right}
use Rattle.fc_base.specs.declared.request.Request.{Request}
use Rattle.fc_base.specs.declared.size.GrainSize.{GrainSize}
use Rattle.fc_changed.specs.Row.{Row}
use Rattle.fc_decided.proofs.Lists.{first_in}
use Rattle.fc_entry.specs.Picture.{Content}
use Rattle.fc_kept.specs.Disks.{NamedDisk}
use Rattle.fc_kept.specs.Kept.{Kept}
use Rattle.fc_kept.specs.OneGrain.{Another}
use Rattle.fc_kept.specs.Prefix.{AreStepsOf}
use Rattle.fc_legal.specs.Whole.{Whole}
use Rattle.fc_rules.specs.Steps.{DiskStep}
use Rattle.law_agreeing.specs.Coming.{one_of}
use Rattle.law_crash.specs.Doing.{content_of, number_of}
use Rattle.law_crash.specs.Points.{Point, on_disks, stored_by}
use Rattle.law_noted.specs.One.{IsAmongSteps, IsOldOrNew, IsOldOrNew.old, IsOldOrNew.new, IsOldOrNew.torn, IsSafe, grain_of_step, unless_lost}

-- a step of those that the entry began
pub among_steps : (grain : GrainSize) (w : Whole) (r : Request) (steps front back : List DiskStep) (step : DiskStep) → AreStepsOf grain w r steps → steps ≡ front ++ step ∷ back → IsAmongSteps grain w r step
among_steps grain w r steps front back step are split =
    record {
      steps = steps;
      are = are;
      among = subst (λ (z : List DiskStep). Contains z step) (sym split) (Contains-append_right front (step ∷ back) step (first_in step back));
    }

-- ---- the one grain

pub is_old : (grain : GrainSize) (w : Whole) (k : Kept) (P : Type 0) (asked : Option Request) → IsOldOrNew grain w k P asked None
is_old grain w k P asked = old asked

-- its step's data were written whole
pub is_new : (grain : GrainSize) (w : Whole) (r : Request) (step : DiskStep) (q : Point) (P : Type 0) → IsAmongSteps grain w r step → on_disks grain w q.disks step.volume (number_of grain r) ≡ content_of grain w r step →
    IsOldOrNew grain w q.kept P (Some r) (Some (one_of grain w r step q))
is_new grain w r step q P among here =
    let One : Content → Another = λ (c : Content). grain_of_step grain r step (unless_lost q.kept step.volume (number_of grain r) c) in
    subst (λ (c : Content). IsOldOrNew grain w q.kept P (Some r) (Some (One c))) (sym here) (new r step among)

-- their write failed
pub is_torn : (grain : GrainSize) (w : Whole) (r : Request) (step : DiskStep) (q : Point) (P : Type 0) → IsAmongSteps grain w r step → P → IsOldOrNew grain w q.kept P (Some r) (Some (one_of grain w r step q))
is_torn grain w r step q P among failed = torn r step (stored_by grain w q step.volume (number_of grain r)) among failed

-- ---- said of another sign that a write failed

one_by : (grain : GrainSize) (w : Whole) (k : Kept) (P Q : Type 0) (asked : Option Request) (one : Option Another) → (P → Q) → IsOldOrNew grain w k P asked one → IsOldOrNew grain w k Q asked one
one_by grain w k P Q asked one f (old a) = old a
one_by grain w k P Q asked one f (new r step among) = new r step among
one_by grain w k P Q asked one f (torn r step content among failed) = torn r step content among (f failed)

pub safe_by : (grain : GrainSize) (disks : List (List NamedDisk)) (k : Kept) (w : Whole) (least : List Row) (asked : Option Request) (P Q : Type 0) → (P → Q) → IsSafe grain disks k w least asked P → IsSafe grain disks k w least asked Q
safe_by grain disks k w least asked P Q f s =
    record { one = s.one; recoverable = s.recoverable; one_is = one_by grain w k P Q asked s.one f s.one_is }
