-- By the status of a call it is known how its session ended.
use Rattle.std.proofs.Common.{◌≡◌, Option, Some, None, refl, sym, ◌∙◌, ap}
use Rattle.fc_call.specs.Call.{status_of}
use Rattle.fc_call.specs.declared.status.Status.{Status}
use Rattle.fc_call.specs.declared.status.Status.TheVariants as status
use Rattle.fc_run.specs.declared.ended.Ended.{Ended}
use Rattle.fc_run.specs.declared.ended.Ended.TheVariants as ended

-- The way that a session ended, by the status of its call.
abbrev ended_by : Status → Option Ended
ended_by status.Done = Some ended.Done
ended_by status.ReadFault = Some ended.ReadFault
ended_by status.TooLong = Some ended.TooLong
ended_by status.LogFull = Some ended.LogFull
ended_by status.WriteFault = Some ended.WriteFault
ended_by status.NoMemory = Some ended.NoMemory
ended_by status.Usage = None
ended_by status.Unended = Some ended.Unended
ended_by status.Refuted = None

ended_of : (e : Ended) → ended_by (status_of e) ≡ Some e
ended_of ended.Done = refl
ended_of ended.Unended = refl
ended_of ended.ReadFault = refl
ended_of ended.TooLong = refl
ended_of ended.LogFull = refl
ended_of ended.WriteFault = refl
ended_of ended.NoMemory = refl

pub same_ended : (e other : Ended) → status_of other ≡ status_of e → other ≡ e
same_ended e other same =
    let some : Some other ≡ Some e = sym (ended_of other) ∙ (ap ended_by same ∙ ended_of e) in
    cc some

-- A session that was run isn't told as words outside of the grammar.
pub never_usage : (e : Ended) → status_of e ≡ status.Usage → ⊥
never_usage e is =
    let none : None ≡ Some e = sym (ap ended_by is) ∙ ended_of e in
    cc none
