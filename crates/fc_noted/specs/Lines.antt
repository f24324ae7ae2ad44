-- A line that is answered to its end, or isn't, and what is so whichever it was.
use Rattle.std.specs.Prelude.{◌≡◌, ℕ, ◌≤◌, true, false, List, [], ◌∷◌, length, OnErr, OnOk, Result}
use Rattle.fc_agenda.specs.Goes.{GoesToEnd}
use Rattle.fc_base.specs.declared.command.Line.{Line}
use Rattle.fc_base.specs.declared.fault.WordFault.{WordFault}
use Rattle.fc_blocks.specs.Segments.{single}
use Rattle.fc_changed.specs.Row.{Row}
use Rattle.fc_entry.specs.HistoryState.{HistoryState}
use Rattle.fc_legal.specs.Added.{Adds}
use Rattle.fc_legal.specs.Agenda.{Reading, Session, session_rules}
use Rattle.fc_legal.specs.Whole.{Whole}
use Rattle.fc_marks.specs.declared.error.NotedStop.{NotedStop}
use Rattle.fc_noted.specs.Making.{KeepLanes, KeepsCount}
use Rattle.fc_noted.specs.Noted.{IsNotedAt}
use Rattle.fc_noted.specs.Stopping.{Halts, LineHalts}
use Rattle.fc_noted.specs.declared.noted.Noted.{Noted}
use Rattle.fc_script.specs.Script.{agenda_of}

-- Whatever is told, with the first noted store standing for it, is brought on by the entries that were logged. All that the script asks
-- is answered, or the line that is read so; and the second noted store stands for what is told then.
module _ {C D : Type 0} (seen : D → List ℕ) (may_leave : D → List ℕ → Type 0) where
  abbrev pub ScriptEnds : Noted C D → Noted C D → HistoryState → HistoryState → Type 0
  ScriptEnds old new before after =
      (read : Reading) (w : Whole) (least : List Row) → IsNotedAt seen may_leave old before w least →
      (next : Whole) × (least_next : List Row) × IsNotedAt seen may_leave new after next least_next
      × Adds before after (λ more. GoesToEnd (session_rules old.store.control.grain read) (agenda_of old.store.control.grain old.script) w more next)

  abbrev pub LineEnds : Result Line WordFault → Noted C D → Noted C D → HistoryState → HistoryState → Type 0
  LineEnds line old new before after =
      (read : Reading) (bytes : List ℕ) (w : Whole) (least : List Row) → read w.books bytes ≡ line → IsNotedAt seen may_leave old before w least →
      (next : Whole) × (least_next : List Row) × IsNotedAt seen may_leave new after next least_next
      × Adds before after (λ more. GoesToEnd (session_rules old.store.control.grain read) (Session (single bytes ∷ [])) w more next)

  -- Or the first of it is.
  module _ (fault_count calls : D → ℕ) where
    abbrev pub ScriptStops : NotedStop → Noted C D → Noted C D → HistoryState → HistoryState → Type 0
    ScriptStops stop old new before after =
        (read : Reading) (w : Whole) (least : List Row) → IsNotedAt seen may_leave old before w least →
        Halts seen may_leave fault_count calls old.store.control.grain read stop (agenda_of old.store.control.grain old.script) old new w before after

    abbrev pub LineStops : Result Line WordFault → NotedStop → Noted C D → Noted C D → HistoryState → HistoryState → Type 0
    LineStops line stop old new before after =
        (read : Reading) (bytes : List ℕ) (w : Whole) (least : List Row) → read w.books bytes ≡ line → IsNotedAt seen may_leave old before w least →
        LineHalts seen may_leave fault_count calls read stop old new bytes w before after

-- Whichever it was: the lanes keep their disks, the calls of metadata's disk are counted, and the history is within its limit. Another line
-- may be asked exactly where this one was answered.
pub record Ran {C D : Type 0} (seen : D → List ℕ) (fault_count calls : D → ℕ) (result : Result (Unit {0}) NotedStop) (old new : Noted C D) (after : HistoryState) : Type 0 where
  pub grain : OnOk result (new.store.control.grain ≡ old.store.control.grain)
  pub lanes : KeepLanes old.store new.store
  pub counted : KeepsCount seen fault_count calls result old new
  pub live : OnOk result (new.live ≡ true)
  pub stopped : OnErr result (new.live ≡ false)
  pub limit : length after.entries ≤ 262144
