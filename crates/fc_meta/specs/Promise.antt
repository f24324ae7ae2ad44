-- What each call of a writer promises, whatever it answers.
use Rattle.std.specs.Prelude.{◌≡◌, ◌⊎◌, ℕ, List, length, Result, OnOk, OnErr, IsErrOf}
use Rattle.fc_base.specs.Count.{HasRisen}
use Rattle.fc_metadisk.specs.Disk.{LeavesOnly}
use Rattle.fc_metadisk.specs.Calls.{DiskCall, Made, all_made, AreCutShort}
use Rattle.fc_format.specs.Halves.{Found}
use Rattle.fc_meta.specs.declared.series.Call.{Call}
use Rattle.fc_meta.specs.declared.error.MetaError.{MetaError}
use Rattle.fc_meta.specs.declared.error.MetaError.TheVariants.{Failed, NoMemory, Full}
use Rattle.fc_meta.specs.declared.meta.Meta.{Meta}
use Rattle.fc_meta.specs.Answers.{LeavesEither, more_calls, IsStopped}
use Rattle.fc_meta.specs.States.{found, head_of}
use Rattle.fc_meta.specs.Order.{IsMade, head_behind, coming, HasNoRoom, TakesMemory}
use Rattle.fc_meta.specs.DiskCalls.{calls_of}

-- Behind Ok a disk was asked for these calls, in this order, and has answered each Ok; behind Failed for the first of them, up
-- to one that failed; and for no other. Its counts tell the same.
pub record Asks {A D : Type 0} (fault_count calls : D → ℕ) (leads : D → List Made → D → Type 0) (asked : List DiskCall) (old new : D) (result : Result A MetaError) : Type 0 where
  pub done : OnOk result (leads old (all_made asked) new)
  pub counted : OnOk result (calls new ≡ more_calls (length asked) (calls old))
  pub quiet : OnOk result (fault_count new ≡ fault_count old)
  pub cut_short : IsErrOf result Failed → AreCutShort (λ made. leads old made new) asked
  pub stopped : IsErrOf result Failed → IsStopped (length asked) (calls old) (calls new)
  pub failed : IsErrOf result Failed → HasRisen (fault_count old) (fault_count new)

module _ {D : Type 0} (seen : D → List ℕ) (moment : D → ℕ) (left_since : D → ℕ → List ℕ → Type 0) (fault_count calls : D → ℕ) (leads : D → List Made → D → Type 0) where
  -- The disk keeps its size and is asked for these calls. A crash at any moment of them leaves what stood, or this, whole.
  pub record TreatsDisk {A : Type 0} (after : Found) (asked : List DiskCall) (old new : Meta D) (result : Result A MetaError) : Type 0 where
    pub size : length (seen new.disk) ≡ length (seen old.disk)
    pub any_moment : LeavesOnly moment left_since old.disk new.disk (LeavesEither (found seen old) after)
    pub asks : Asks fault_count calls leads asked old.disk new.disk result

  -- The call is made, or refused for one of these causes.
  pub record Promise {A : Type 0} (may_leave : D → List ℕ → Type 0) (call : Call) (old new : Meta D) (result : Result A MetaError) : Type 0 where
    pub made : OnOk result (IsMade seen may_leave call old new)
    pub head : OnOk result (head_of new ≡ head_behind call old)
    pub room : OnOk result (HasNoRoom seen call old → ⊥)
    pub full : IsErrOf result Full → HasNoRoom seen call old
    pub no_memory : IsErrOf result NoMemory → TakesMemory call
    pub not_failed : IsErrOf result Failed → HasNoRoom seen call old → ⊥
    pub refused : OnErr result (IsErrOf result Failed ⊎ (new ≡ old))
    pub treats : TreatsDisk (coming seen call old) (calls_of seen call old) old new result
