-- The lane of what is next isn't made ready, and the line stops there.
use Rattle.std.proofs.Common.{◌≡◌, ℕ, List, Result, Ok, Err, IsErrAnd, refl, sym, subst}
use Rattle.fc_entry.specs.HistoryState.{HistoryState}
use Rattle.fc_entry.specs.declared.stop.Stop.{Stop}
use Rattle.fc_marks.specs.Stops.{stop_of_log}
use Rattle.fc_marks.specs.declared.error.NotedStop.{NotedStop}
use Rattle.fc_noted.proofs.Begun.{stopped_made}
use Rattle.fc_noted.proofs.Filling.{full_only, no_disk_failed, not_of_metadata}
use Rattle.fc_noted.proofs.MeteringNoted.{no_calls}
use Rattle.fc_noted.specs.Making.{KeepsCount, StepMade, always}
use Rattle.fc_noted.specs.Noted.{CanBegin}
use Rattle.fc_noted.specs.declared.noted.Noted.{Noted}
use Rattle.fc_stands.specs.Store.{StoreView}
use Rattle.fc_store.specs.Ready.{IsRoomier, IsStopped}

module _ {C D : Type 0} (seen : D → List ℕ) (may_leave : D → List ℕ → Type 0) (moment : D → ℕ) (left_since : D → ℕ → List ℕ → Type 0) (disk_calls : D → ℕ) (only_now : (disk : D) (c : List ℕ) → left_since disk (moment disk) c → may_leave disk c)
    (old : Noted C D) (history : HistoryState) (begins : CanBegin seen may_leave old history) (roomy : StoreView) (kept : IsRoomier old.store roomy) where
  pub unready_made : (stop : Stop) → IsStopped stop history → (result : Result (Unit {0}) NotedStop) → IsErrAnd result (λ e. e ≡ stop_of_log stop) →
      StepMade seen may_leave moment left_since disk_calls (always result) old (record old { store = roomy }) history history
  unready_made stop is (Ok none) told = absurd told
  unready_made stop is (Err e) told =
      subst (λ (s : NotedStop). StepMade seen may_leave moment left_since disk_calls (Err s) old (record old { store = roomy }) history history) (sym told)
      (stopped_made seen may_leave moment left_since disk_calls only_now old history begins roomy kept (stop_of_log stop) (full_only stop history is) (not_of_metadata stop))

-- no disk failed
module _ {C D : Type 0} (seen : D → List ℕ) (fault_count calls : D → ℕ) (old : Noted C D) (roomy : StoreView) where
  pub unready_counts : (stop : Stop) → (result : Result (Unit {0}) NotedStop) → IsErrAnd result (λ e. e ≡ stop_of_log stop) → KeepsCount seen fault_count calls result old (record old { store = roomy })
  unready_counts stop (Ok none) told = absurd told
  unready_counts stop (Err e) told =
      subst (λ (s : NotedStop). KeepsCount {T = Unit {0}} seen fault_count calls (Err s) old (record old { store = roomy })) (sym told)
      (no_calls seen fault_count calls (Err (stop_of_log stop)) old (record old { store = roomy }) refl refl (no_disk_failed stop))
