-- Who answers the lines of a session, as the top knows him: he stands for what is told of the history.
use Rattle.std.specs.Borrow.{MutBor}
use Rattle.std.specs.Prelude.{◌≡◌, ℕ, ◌≤◌, List, [], ◌∷◌, ◌++◌, Option, Result, is_some, length, codes}
use Rattle.std.specs.List.{Contains}
use Rattle.fc_base.specs.declared.size.GrainSize.{GrainSize}
use Rattle.fc_blocks.specs.Blocks.{Opened}
use Rattle.fc_blocks.specs.Segments.{cut, together}
use Rattle.fc_blocks.specs.declared.block.BlockRead.{BlockRead}
use Rattle.fc_entry.specs.HistoryState.{HistoryState}
use Rattle.fc_entry.specs.Text.{HasNames}
use Rattle.fc_entry.specs.declared.stop.Stop.{Stop}
use Rattle.fc_grains.specs.Grains.{pool_of, silent_of}
use Rattle.fc_legal.specs.Added.{Answered, IsOf, IsTold, StaysUp, TellsSome}
use Rattle.fc_legal.specs.Agenda.{Session as Asking, session_rules}
use Rattle.fc_legal.specs.Legal.{IsLegal}
use Rattle.fc_legal.specs.Run.{IsRun, IsPartialRun, WantsMore}
use Rattle.fc_legal.specs.Whole.{Whole}
use Rattle.fc_mdisk.specs.Disk.{DiskState}
use Rattle.fc_run.specs.Headline.{EndsAs, Session}
use Rattle.fc_run.specs.Input.{Gave}
use Rattle.fc_run.specs.Runs.{Runs}
use Rattle.fc_run.specs.declared.ended.Ended.{Ended}
use Rattle.fc_run.specs.declared.ended.Ended.TheVariants as ended
use Rattle.fc_lanes.specs.Dealing.{disks_in}
use Rattle.fc_stands.specs.Quiet.{QuietBy}
use Rattle.fc_stands.specs.Store.{StoreView, StandsFor}
use Rattle.fc_owner.specs.FirstTold.{first_told}
use Rattle.fc_owner.specs.PlainRuns.{plain_runs}
use Rattle.fc_owner.specs.Reading.{reading}

-- Something is told of the history, for which he stands, and of which this holds.
pub record Reaches (Stands : HistoryState → Whole → Type 0) (history : HistoryState) (Holds : Whole → Type 0) : Type 0 where
  pub last : Whole
  pub told : IsOf last history
  pub stands : Stands history last
  pub holds : Holds last

-- He goes on from the block that is open after the lines. For want of memory he needn't stand for what is told, and this is kept.
abbrev pub runs_of : GrainSize → Whole → (Option Opened → Type 0) → (HistoryState → Whole → Type 0) → Type 0 → Runs
runs_of grain w GoesOn Stands Kept = record {
  Whole = λ lines history.
      Reaches Stands history (λ last. IsRun grain reading w (cut lines).segments history.entries last × GoesOn (cut lines).open_block);
  Full = λ lines history. Reaches Stands history (λ last. WantsMore grain reading w (cut lines).segments history.entries last);
  Front = λ lines history. Reaches (λ told w. Kept) history (λ last. IsPartialRun grain reading w (cut lines).segments history.entries last);
  is_open = λ lines. is_some (cut lines).open_block;
}

-- At the end of a session he stands so, or, for want of memory, this is kept.
abbrev pub StandsOr : Ended → Type 0 → Type 0 → Type 0
StandsOr ended.NoMemory stands kept = kept
StandsOr _ stands kept = stands

-- ---- the store

-- What stood before the first line: the grain size, and the disks as they were handed in.
pub record Start : Type 0 where
  pub grain : GrainSize
  pub disks : List DiskState

-- The store stands for what is told. It has the disks that were handed in, and none of them fails, unless one came with an armed
-- fault that it doesn't tell, or an entry armed one; their armed faults are as the entries tell.
pub record IsUp (start : Start) (store : StoreView) (history : HistoryState) (last : Whole) : Type 0 where
  pub stands : StandsFor store last
  pub grain_is : store.control.grain ≡ start.grain
  pub disks : disks_in store.lanes ≡ pool_of start.disks
  pub quiet : silent_of start.disks ≡ 0 → QuietBy history.entries store

-- It has the disks that were handed in.
abbrev pub HasDisks : Start → StoreView → Type 0
HasDisks start store = disks_in store.lanes ≡ pool_of start.disks

-- A store and the reader of its lines: the block that is open after the lines is the one that is being read. And its owner is able
-- to run blocks.
abbrev pub store_runs : Type 0 → Option Opened → StoreView → Start → Runs
store_runs Able reader store start =
    runs_of start.grain (first_told start.disks) (λ open_block. (open_block ≡ reader) × Able)
    (λ history last. IsUp start store history last) (HasDisks start store)

-- ---- a session that is over

-- What is told at the end, by the way that it ended.
pub record IsOver (grain : GrainSize) (w : Whole) (Stands : HistoryState → Whole → Type 0) (Kept : Type 0) (e : Ended) (s : Session) (bytes : List ℕ) : Type 0 where
  pub last : Whole
  pub ends : EndsAs e s (plain_runs grain w last) bytes
  pub legal : IsLegal grain w s.history.entries last
  pub told : IsOf last s.history
  pub stands : StandsOr e (Stands s.history last) Kept

-- The session of a store.
pub record SessionOver (start : Start) (store : StoreView) (s : Session) : Type 0 where
  pub bytes : List ℕ
  pub gave : Gave s.source bytes s.source'
  pub over : IsOver start.grain (first_told start.disks) (λ history last. IsUp start store history last) (HasDisks start store) s.ended s bytes

-- ---- blocks

-- A block that was read can be run.
pub record CanRun (store : StoreView) (history : HistoryState) (block : BlockRead) : Type 0 where
  pub stands : TellsSome (StandsFor store) history
  pub room : length history.entries ≤ 262144
  pub main : (names : List (List ℕ)) × (history.actors ≡ codes "main" ∷ names)
  pub read : (lines : List (List ℕ)) × Contains (cut lines).segments (together block)

-- The block is answered after whatever is told, and what must stay stays.
pub record IsBlockRun (answer : Result (Unit {0}) Stop) (store now : StoreView) (block : BlockRead) (old new : HistoryState) : Type 0 where
  pub answered : (w : Whole) → IsTold (StandsFor store) old w →
      Answered answer (StandsFor now) (session_rules store.control.grain reading) (Asking (together block ∷ [])) w old new
  pub grain : now.control.grain ≡ store.control.grain
  pub disks : disks_in now.lanes ≡ disks_in store.lanes
  pub quiet : QuietBy old.entries store → StaysUp answer (QuietBy new.entries now)
  pub named : HasNames old → HasNames new
  pub names : (names : List (List ℕ)) × (new.actors ≡ old.actors ++ names)
  pub limit : length new.entries ≤ 262144

-- Calls with such premises and such results run blocks, over stores of any kind that are seen so.
pub record RunsBlocks {S : Type 0} (view : S → StoreView) (Pre : MutBor S → BlockRead → MutBor HistoryState → Type 0)
    (Post : MutBor S → BlockRead → MutBor HistoryState → Result (Unit {0}) Stop → MutBor S → MutBor HistoryState → Type 0) : Type 0 where
  pub may : (store : MutBor S) (block : BlockRead) (history : MutBor HistoryState) → CanRun (view store.now) history.now block → Pre store block history
  pub does : (store : MutBor S) (block : BlockRead) (history : MutBor HistoryState) (answer : Result (Unit {0}) Stop) (store' : MutBor S) (history' : MutBor HistoryState) →
      CanRun (view store.now) history.now block → Post store block history answer store' history' →
      IsBlockRun answer (view store.now) (view store'.now) block history.now history'.now
