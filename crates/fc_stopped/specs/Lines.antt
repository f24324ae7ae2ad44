-- A noted store that answers the lines of a session: what it stands for after some of them.
use Rattle.std.specs.Prelude.{◌≡◌, ℕ, ◌-◌, ◌^◌, ◌<◌, true, false, List, [], ◌∷◌, length, map, slice_index_or, Option, None, Result, Ok, Err}
use Rattle.fc_agenda.specs.Goes.{Goes, GoesToEnd}
use Rattle.fc_base.specs.declared.limits.TheConstants.{LANES}
use Rattle.fc_base.specs.declared.size.GrainSize.TheVariants.{K64}
use Rattle.fc_blocks.specs.Segments.{single}
use Rattle.fc_changed.specs.Row.{Row}
use Rattle.fc_entry.specs.HistoryState.{HistoryState}
use Rattle.fc_entry.specs.declared.stop.Stop.{Stop}
use Rattle.fc_entry.specs.declared.stop.Stop.TheVariants.{LogFull as LogIsFull, NoMemory as WantsMemory}
use Rattle.fc_grains.specs.Grains.{pool_of}
use Rattle.fc_lane.specs.Lane.{LaneView}
use Rattle.fc_lanes.specs.Dealing.{disks_in}
use Rattle.fc_legal.specs.Added.{Adds, IsOf}
use Rattle.fc_legal.specs.Agenda.{Agenda, Session, session_rules}
use Rattle.fc_legal.specs.Run.{IsRun, WantsMore}
use Rattle.fc_legal.specs.Whole.{Whole}
use Rattle.fc_marks.specs.declared.error.NotedStop.{NotedStop}
use Rattle.fc_marks.specs.declared.error.NotedStop.TheVariants.{LogFull, MetaFailed, MetaFull, NoMemory}
use Rattle.fc_meta.specs.Answers.{more_calls}
use Rattle.fc_meta.specs.States.{disk_of, room_of}
use Rattle.fc_noted.specs.Noted.{IsNotedAt}
use Rattle.fc_noted.specs.Stopping.{Leaves, LineHalts}
use Rattle.fc_noted.specs.declared.noted.Noted.{Noted}
use Rattle.fc_owner.specs.FirstTold.{first_told}
use Rattle.fc_owner.specs.StoreRuns.{Start}
use Rattle.fc_run.specs.Runs.{Runs}
use Rattle.fc_stopped.specs.Calls.{CallsLeft}
use Rattle.fc_stopped.specs.Reading.{stop_reading}

-- A stop, as the loop over lines knows it.
abbrev pub stop_told : NotedStop → Stop
stop_told LogFull = LogIsFull
stop_told NoMemory = WantsMemory
stop_told MetaFailed = WantsMemory
stop_told MetaFull = WantsMemory

-- The lanes that began over the disks that were handed in, with grains of this size: as many disks of each kind are there.
pub record HasLanes (start : Start) (lanes : List LaneView) : Type 0 where
  pub count : length lanes ≡ LANES
  pub grain : (i : ℕ) (d : LaneView) → i < length lanes → (slice_index_or lanes i d).grains.grain ≡ start.grain
  pub disks : disks_in lanes ≡ pool_of start.disks

-- A run of these lines, from what is told over the disks; its first entries, up to what is left to be asked; and these, where one more
-- is asked for.
abbrev pub RunsLines : Start → List (List ℕ) → HistoryState → Whole → Type 0
RunsLines start lines history last = IsRun start.grain stop_reading (first_told start.disks) (map single lines) history.entries last

abbrev pub RunsUpTo : Start → List (List ℕ) → HistoryState → Agenda → Whole → Type 0
RunsUpTo start lines history left last =
    Goes (session_rules start.grain stop_reading) (Session (map single lines)) (first_told start.disks) history.entries left last

abbrev pub RunsAsking : Start → List (List ℕ) → HistoryState → Whole → Type 0
RunsAsking start lines history last = WantsMore start.grain stop_reading (first_told start.disks) (map single lines) history.entries last

-- What a session goes by: the grains and disks that it begins over, the number of the call at which its disk of metadata stops, and how
-- many bytes a half of that disk has.
pub record StopStart : Type 0 where
  pub start : Start
  pub number : ℕ
  pub half : ℕ

-- The first of these lines are answered, and the stop came so far.
abbrev pub LeftBy : Option NotedStop → StopStart → List (List ℕ) → HistoryState → Agenda → Whole → Type 0
LeftBy stop s lines history left last = RunsUpTo s.start lines history left last × CallsLeft s.number s.half stop history.entries last left

module _ {C D : Type 0} (seen : D → List ℕ) (may_leave : D → List ℕ → Type 0) (fault_count calls : D → ℕ) where
  -- A line is answered to its end; or its first entries are there.
  abbrev pub LineIsAnswered : Result (Unit {0}) NotedStop → Noted C D → Noted C D → List ℕ → Whole → HistoryState → HistoryState → Type 0
  LineIsAnswered (Ok done) old new bytes w before after =
      (new.live ≡ true) × (new.store.control.grain ≡ old.store.control.grain)
      × ((next : Whole) × (least : List Row) × IsNotedAt seen may_leave new after next least
      × Adds before after (λ more. GoesToEnd (session_rules old.store.control.grain stop_reading) (Session (single bytes ∷ [])) w more next))
  LineIsAnswered (Err stop) old new bytes w before after = LineHalts seen may_leave fault_count calls stop_reading stop old new bytes w before after

  -- The disk of metadata was called as often as was counted, and hasn't failed. Its own count comes to its last value where it fails, and
  -- not before.
  pub record HasCounted (n : Noted C D) (s : StopStart) : Type 0 where
    pub few : s.number < 2 ^ 32
    pub made : ℕ
    pub count : n.calls ≡ more_calls made 0
    pub called : calls (disk_of n.meta) ≡ more_calls made (2 ^ 64 - 1 - s.number)
    pub quiet : fault_count (disk_of n.meta) ≡ 0
    pub size : room_of seen n.meta ≡ s.half
    pub before : (disk : D) → fault_count disk ≡ 0 → calls disk < 2 ^ 64 - 1
    pub at : (disk : D) → 0 < fault_count disk → calls disk ≡ 2 ^ 64 - 1

  -- It answered these lines, and goes on.
  pub record HasAnswered (n : Noted C D) (stop : Option NotedStop) (s : StopStart) (lines : List (List ℕ)) (history : HistoryState) : Type 0 where
    pub on : stop ≡ None
    pub live : n.live ≡ true
    pub sized : s.start.grain ≡ K64
    pub grain : n.store.control.grain ≡ s.start.grain
    pub lanes : HasLanes s.start n.store.lanes
    pub last : Whole
    pub least : List Row
    pub at : IsNotedAt seen may_leave n history last least
    pub counted : HasCounted n s
    pub run : RunsLines s.start lines history last

  -- Something is told of the history, of which this holds, with what is left to be asked; and whatever a crash leaves, it may be
  -- recovered.
  pub record HasLeft (n : Noted C D) (start : Start) (history : HistoryState) (Holds : Agenda → Whole → Type 0) : Type 0 where
    pub lanes : HasLanes start n.store.lanes
    pub last : Whole
    pub left : Agenda
    pub told : IsOf last history
    pub leaves : Leaves start.grain may_leave n last left
    pub holds : Holds left last

  -- What is said of the lines so far.
  abbrev pub noted_runs : Noted C D → Option NotedStop → StopStart → Runs
  noted_runs n stop s = record {
    Whole = λ lines history. HasAnswered n stop s lines history;
    Full = λ lines history. HasLeft n s.start history (λ left last. RunsAsking s.start lines history last);
    Front = λ lines history. HasLeft n s.start history (LeftBy stop s lines history);
    is_open = λ lines. false;
  }
