-- What a stage of a preset leaves: what it asks is answered, and what is asked behind that.
use Rattle.std.specs.Prelude.{◌≡◌, ℕ, ◌≤◌, List, [], length, Option, Some, None, Result}
use Rattle.fc_base.specs.declared.behind.Behind.{Behind}
use Rattle.fc_base.specs.declared.command.Command.{Command}
use Rattle.fc_base.specs.declared.request.Reply.{Reply}
use Rattle.fc_base.specs.declared.request.Reply.TheVariants.{Made}
use Rattle.fc_base.specs.declared.request.Request.{Request}
use Rattle.fc_base.specs.declared.request.Request.TheVariants.{Command as Asked}
use Rattle.fc_entry.specs.HistoryState.{HistoryState}
use Rattle.fc_entry.specs.declared.stop.Stop.{Stop}
use Rattle.fc_lanes.specs.Dealing.{disks_in}
use Rattle.fc_legal.specs.Added.{Answered, IsTold, StaysUp}
use Rattle.fc_legal.specs.Agenda.{Own, Reading, session_rules}
use Rattle.fc_legal.specs.Whole.{Whole}
use Rattle.fc_stands.specs.Logged.{Logged}
use Rattle.fc_stands.specs.Quiet.{QuietBy}
use Rattle.fc_stands.specs.Store.{StandsFor, StoreView}

-- ---- what was made

-- The id of it, by the reply.
abbrev pub made_by : Reply → Option ℕ
made_by (Made kind id) = Some id
made_by reply = None

-- What a call says of the entry's reply: the id of what was made.
abbrev pub whether_made : Option ℕ → Reply → Type 0
whether_made made reply = made ≡ made_by reply

-- ---- one command that was run

-- Whatever is told before it, its entry was logged, with a reply of which this holds; or the call stopped. The store keeps its grain
-- size and its disks, and stays as quiet as the entries tell.
pub record HasRun {A : Type 0} (result : Result A Stop) (Says : A → Reply → Type 0) (command : Command) (old new : StoreView) (before after : HistoryState) : Type 0 where
  pub logged : (w : Whole) → IsTold (StandsFor old) before w → Logged result Says (StandsFor new) old.control.grain w (Asked command) before after
  pub grain : new.control.grain ≡ old.control.grain
  pub disks : disks_in new.lanes ≡ disks_in old.lanes
  pub quiet : QuietBy before.entries old → StaysUp result (QuietBy after.entries new)
  pub limit : length after.entries ≤ 262144

-- ---- the rest of a line

-- Whatever is told before it, the history goes through these requests of `main`, and then through what is asked behind the last of
-- them. The store keeps its grain size and its disks, and stays as quiet as the entries tell.
pub record AnswersOwn (result : Result (Unit {0}) Stop) (requests : List Request) (behind : Behind) (old new : StoreView) (before after : HistoryState) : Type 0 where
  pub answered : (read : Reading) (w : Whole) → IsTold (StandsFor old) before w →
      Answered result (StandsFor new) (session_rules old.control.grain read) (Own requests behind []) w before after
  pub grain : new.control.grain ≡ old.control.grain
  pub disks : disks_in new.lanes ≡ disks_in old.lanes
  pub quiet : QuietBy before.entries old → StaysUp result (QuietBy after.entries new)
  pub limit : length after.entries ≤ 262144
