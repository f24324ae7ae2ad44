-- The law of a block that is run.
use Rattle.std.specs.Prelude.{◌≡◌, ℕ, ◌+◌, ◌≤◌, List, [], ◌++◌, length, map, Contains, Result, Ok, Err}
use Rattle.fc_base.specs.declared.size.GrainSize.{GrainSize}
use Rattle.fc_blocks.specs.Segments.{together, cut}
use Rattle.fc_blocks.specs.declared.block.BlockRead.{BlockRead}
use Rattle.fc_entry.specs.HistoryState.{HistoryState}
use Rattle.fc_entry.specs.declared.entry.Entry.{Entry}
use Rattle.fc_entry.specs.declared.stop.Stop.{Stop}
use Rattle.fc_entry.specs.declared.stop.Stop.TheVariants.{LogFull, NoMemory}
use Rattle.fc_lanes.specs.Dealing.{disks_in}
use Rattle.fc_legal.specs.Added.{Answered, IsOf}
use Rattle.fc_legal.specs.Agenda.{Reading, session_rules}
use Rattle.fc_legal.specs.Scripts.{Script}
use Rattle.fc_legal.specs.Whole.{Whole}
use Rattle.fc_merge.specs.Merging.{IsMerged, all_of}
use Rattle.fc_scripts.specs.Ways.{AreOfDifferent}
use Rattle.fc_stands.specs.Quiet.{QuietBy}
use Rattle.fc_stands.specs.Store.{StandsFor, StoreView}
use Rattle.law_together.specs.Asking.{AllAsked, AllBegan, OneWants}
use Rattle.law_together.specs.Making.{AreMakings, Making, own_of}
use Rattle.law_together.specs.Telling.{AreTold, block_alone, named, scripts_then}
use Rattle.law_running.specs.Running.{IsRun, ScriptsRan}

-- The lists of what actors made merge to this.
abbrev pub MergesTo : HistoryState → List Making → List Entry → Type 0
MergesTo old makings merged = IsMerged (length old.entries) (length (all_of (map own_of makings))) (map own_of makings) merged

-- The history with these entries behind its own.
abbrev pub with_entries : HistoryState → List Entry → HistoryState
with_entries old more = record old { entries = old.entries ++ more }

pub record RunLaw : Type 0 where
  -- the actors asked all; or one wants one more, and the limit is reached; or the first of what they made is told
  pub all : (store new : StoreView) (w : Whole) (makings : List Making) (scripts : List Script) (merged : List Entry) (old : HistoryState) →
      IsOf w old → AreMakings makings → IsRun store new w makings → AllAsked (map own_of makings) scripts →
      MergesTo old makings merged →
      ScriptsRan {A = Unit {0}} (Ok tt) (StandsFor new) store.control.grain w scripts old (with_entries old merged)
  pub full : (store new : StoreView) (w : Whole) (makings : List Making) (scripts : List Script) (merged : List Entry) (old : HistoryState) →
      IsOf w old → AreMakings makings → (run : IsRun store new w makings) → AreOfDifferent scripts →
      AllBegan (map own_of makings) scripts → OneWants (map own_of makings) scripts →
      262144 ≤ w.entries + length run.entries → MergesTo old makings merged →
      ScriptsRan {A = Unit {0}} (Err LogFull) (StandsFor new) store.control.grain w scripts old (with_entries old merged)
  pub some : (store new left : StoreView) (w : Whole) (makings : List Making) (scripts : List Script)
      (merged front rest : List Entry) (old : HistoryState) →
      IsOf w old → AreMakings makings → IsRun store new w makings → AreOfDifferent scripts →
      AllBegan (map own_of makings) scripts → MergesTo old makings merged → merged ≡ front ++ rest →
      ScriptsRan {A = Unit {0}} (Err NoMemory) (StandsFor left) store.control.grain w scripts old (with_entries old front)
  -- it passes no limit
  pub limit : (store new : StoreView) (w : Whole) (makings : List Making) (merged front rest : List Entry) (old : HistoryState) →
      IsOf w old → AreMakings makings → IsRun store new w makings →
      MergesTo old makings merged → merged ≡ front ++ rest → length (old.entries ++ front) ≤ 262144
  -- the grain size and the disks stay
  pub grain : (store new : StoreView) (w : Whole) (makings : List Making) →
      IsRun store new w makings → new.control.grain ≡ store.control.grain
  pub disks : (store new : StoreView) (w : Whole) (makings : List Making) → StandsFor store w →
      IsRun store new w makings → disks_in new.lanes ≡ disks_in store.lanes
  -- where no disk could fail, none can, and armed faults are as the entries tell
  pub quiet : (store new : StoreView) (w : Whole) (makings : List Making) (merged : List Entry) (old : HistoryState) →
      StandsFor store w → IsOf w old → AreMakings makings → IsRun store new w makings → MergesTo old makings merged →
      QuietBy old.entries store → QuietBy (old.entries ++ merged) new
  -- who stands for what is told does so when names have come
  pub named_stands : (store : StoreView) (w : Whole) (block : BlockRead) → StandsFor store w → StandsFor store (named w block)
  -- with the faults of which `main` was told before, it answers the block
  pub block : (result : Result (Unit {0}) Stop) (left : StoreView) (lines : List (List ℕ)) (grain : GrainSize) (read : Reading)
      (block : BlockRead) (w mid : Whole) (faults : List Entry) (old middle new : HistoryState) →
      Contains (cut lines).segments (together block) →
      AreTold grain w block.faults faults [] mid → middle.entries ≡ old.entries ++ faults →
      ScriptsRan result (StandsFor left) grain (named mid block) (scripts_then grain mid block) middle new →
      Answered result (StandsFor left) (session_rules grain read) (block_alone block) w old new
