-- Between two lines, whatever a crash leaves may be recovered.
use Rattle.std.proofs.Common.{ℕ, ◌≤◌, Option, None, List, length, ap, subst, ◌∙◌, arith}
use Rattle.fc_base.specs.declared.size.GrainSize.{GrainSize}
use Rattle.fc_changed.specs.Row.{Row}
use Rattle.fc_entry.specs.HistoryState.{HistoryState}
use Rattle.fc_format.specs.Halves.{recovered}
use Rattle.fc_kept.specs.Images.{kept_in}
use Rattle.fc_legal.specs.Agenda.{Agenda}
use Rattle.fc_legal.specs.Whole.{Whole}
use Rattle.fc_marks.specs.declared.error.NotedStop.{NotedStop}
use Rattle.fc_noted.proofs.Counting.{has_counted}
use Rattle.fc_noted.proofs.Resting.{rests}
use Rattle.fc_noted.proofs.Safe.{as_it_was}
use Rattle.fc_noted.specs.Noted.{IsNotedAt}
use Rattle.fc_noted.specs.Stopping.{Leaves, MoreFailed}
use Rattle.fc_noted.specs.declared.noted.Noted.{Noted}
use Rattle.fc_stopped.specs.Lines.{HasAnswered, HasLeft, StopStart}

module _ {C D : Type 0} (seen : D → List ℕ) (may_leave : D → List ℕ → Type 0) (fault_count calls : D → ℕ) where
  resting_leaves : (n : Noted C D) (history : HistoryState) (w : Whole) (least : List Row) → IsNotedAt seen may_leave n history w least → length history.entries ≤ 262144 → (left : Agenda) →
      Leaves n.store.control.grain may_leave n w left
  resting_leaves n history w least at room left =
      let few : w.entries ≤ 262144 = omega (arith, at.told.1.entries, room) in
      record {
        volumes = at.keeps.volumes;
        counted = has_counted n.store w at.told.0 few;
        found = λ c may. (
          at.keeps.image,
          ap recovered (at.keeps.rests.durable c may) ∙ at.keeps.says,
          at.keeps.sound,
          λ back hold. (
            least,
            None,
            tt,
            as_it_was n.store.control.grain back (kept_in at.keeps.image) w least None (MoreFailed w n.store.lanes) (rests seen may_leave n history w least None at back few hold),
          ),
        );
      }

  -- Lines that were answered leave what is told of them, whatever is left to be asked.
  pub answered_left : (n : Noted C D) (stop : Option NotedStop) (s : StopStart) (lines : List (List ℕ)) (history : HistoryState) (a : HasAnswered seen may_leave fault_count calls n stop s lines history) →
      length history.entries ≤ 262144 → (left : Agenda) (Holds : Agenda → Whole → Type 0) → Holds left a.last → HasLeft seen may_leave fault_count calls n s.start history Holds
  answered_left n stop s lines history a room left Holds holds =
      record {
        lanes = a.lanes;
        last = a.last;
        left = left;
        told = a.at.told.1;
        leaves = subst (λ (g : GrainSize). Leaves g may_leave n a.last left) a.grain (resting_leaves n history a.last a.least a.at room left);
        holds = holds;
      }
