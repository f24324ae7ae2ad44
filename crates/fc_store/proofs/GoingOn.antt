-- Loops of the store: what each turn keeps of the store and the history with which they began.
use Rattle.std.proofs.Common.{◌≡◌, ◌≤◌, length, refl, ◌∙◌}
use Rattle.fc_base.specs.declared.limits.TheConstants.{MAX_ENTRIES}
use Rattle.fc_entry.specs.HistoryState.{HistoryState}
use Rattle.fc_lanes.specs.Dealing.{disks_in}
use Rattle.fc_legal.specs.Added.{TellsSome}
use Rattle.fc_stands.specs.Quiet.{QuietBy}
use Rattle.fc_stands.specs.Store.{StandsFor, StoreView}

-- The store stands for what is told so far, of a history within its limit, with the control part and as many disks as it had, and
-- as quiet.
pub record GoesOn (old : StoreView) (before : HistoryState) (now : StoreView) (after : HistoryState) : Type 0 where
  pub stands : TellsSome (StandsFor now) after
  pub room : length after.entries ≤ MAX_ENTRIES
  pub control : now.control ≡ old.control
  pub disks : disks_in now.lanes ≡ disks_in old.lanes
  pub quiet : QuietBy before.entries old → QuietBy after.entries now

pub goes_first : (s : StoreView) (history : HistoryState) → TellsSome (StandsFor s) history → length history.entries ≤ MAX_ENTRIES → GoesOn s history s history
goes_first s history stands room = record { stands = stands; room = room; control = refl; disks = refl; quiet = λ q. q }

-- One turn more.
pub goes_then : {old mid new : StoreView} {before between after : HistoryState} → GoesOn old before mid between → TellsSome (StandsFor new) after → length after.entries ≤ MAX_ENTRIES →
    new.control ≡ mid.control → disks_in new.lanes ≡ disks_in mid.lanes → (QuietBy between.entries mid → QuietBy after.entries new) → GoesOn old before new after
goes_then first stands room control disks quiet = record {
  stands = stands;
  room = room;
  control = control ∙ first.control;
  disks = disks ∙ first.disks;
  quiet = λ q. quiet (first.quiet q);
}
