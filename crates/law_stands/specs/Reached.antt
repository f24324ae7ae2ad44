-- The law of standing: what stands before the first entry, and after every right entry.
use Rattle.std.specs.Prelude.{◌≡◌, ℕ, ◌+◌, ◌*◌, ◌^◌, ◌<◌, ◌≤◌, List, length, Option}
use Rattle.fc_base.specs.Pools.{Pool}
use Rattle.fc_base.specs.declared.command.Command.{Command}
use Rattle.fc_base.specs.declared.ids.VolId.{VolId}
use Rattle.fc_base.specs.declared.size.GrainSize.{GrainSize}
use Rattle.fc_books.specs.Deciding.{IsLoopOf}
use Rattle.fc_entry.specs.Refused.{all_grains}
use Rattle.fc_entry.specs.declared.entry.Entry.{Entry}
use Rattle.fc_legal.specs.Legal.{AreSteps, IsLegal}
use Rattle.fc_legal.specs.Stands.{Stands}
use Rattle.fc_legal.specs.Steps.{Step, after_settling, decided_on, left_by, one_more}
use Rattle.fc_legal.specs.Whole.{Whole, opened}
use Rattle.fc_parts.specs.Law.{IsOfLane}

-- After so many decisions it stands, and all volumes together have few grains.
pub record IsReached (decisions : ℕ) (w : Whole) : Type 0 where
  pub stands : Stands decisions w
  pub grains : all_grains w.books.tables.volumes ≤ 8192

-- A history makes two decisions at most for each entry.
abbrev pub IsReachedByEntries : Whole → Type 0
IsReachedByEntries w = IsReached (2 * w.entries) w

pub record StandsLaw : Type 0 where
  -- it is so before the first entry
  pub opened : (pools : List Pool) → 0 < length pools → IsReached 0 (opened pools)
  -- what was reached by some decisions counts as reached by more
  pub more : (decisions larger : ℕ) (w : Whole) → decisions ≤ larger → IsReached decisions w → IsReached larger w
  -- a refusal and an entry of a lane decide nothing
  pub refused : (decisions : ℕ) (w : Whole) → IsReached decisions w → IsReached decisions (one_more w)
  pub of_lane : (grain : GrainSize) (decisions : ℕ) (w : Whole) (i : ℕ) (entry : Entry) (next : Whole) → IsReached decisions w →
      IsOfLane grain w i entry.request → Step grain w entry next → IsReached decisions next
  -- a settling is one decision, and a command that is decided after it one more
  pub settled : (grain : GrainSize) (decisions : ℕ) (w : Whole) → decisions < 2 ^ 32 → IsReached decisions w →
      IsReached (decisions + 1) (after_settling grain w)
  pub decided : (grain : GrainSize) (decisions : ℕ) (w : Whole) (command : Command) (loop : Option (List VolId)) →
      decisions + 1 < 2 ^ 32 → IsReached decisions w → IsLoopOf grain (after_settling grain w).books command loop →
      IsReached (decisions + 2) (left_by grain (after_settling grain w) (decided_on grain (after_settling grain w) command loop))
  -- so it is after every right entry, which is one more
  pub step : (grain : GrainSize) (decisions : ℕ) (w : Whole) (entry : Entry) (next : Whole) → decisions + 1 < 2 ^ 32 →
      IsReached decisions w → Step grain w entry next → IsReached (decisions + 2) next
  pub counted : (grain : GrainSize) (w : Whole) (entry : Entry) (next : Whole) → Step grain w entry next → next.entries ≡ w.entries + 1
  -- and so through a history
  pub by_entries : (grain : GrainSize) (w : Whole) (entry : Entry) (next : Whole) → w.entries < 262144 →
      IsReachedByEntries w → Step grain w entry next → IsReachedByEntries next
  pub steps : (grain : GrainSize) (w : Whole) (entries : List Entry) (last : Whole) → w.entries + length entries ≤ 262144 →
      IsReachedByEntries w → AreSteps grain w entries last → IsReachedByEntries last
  pub legal : (grain : GrainSize) (w : Whole) (entries : List Entry) (last : Whole) → w.entries + length entries ≤ 262144 →
      IsReachedByEntries w → IsLegal grain w entries last → IsReachedByEntries last
