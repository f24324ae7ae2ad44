-- When an entry is right after what was told, and what is told after it.
use Rattle.std.specs.Prelude.{◌≡◌, ℕ, ◌+◌, ◌%◌, ◌<◌, ◌≤◌, Contains, Option, Some, None, List, [], ◌∷◌, ◌++◌, slice_index_or, slice_set}
use Rattle.fc_base.specs.Grain.{grain_blocks}
use Rattle.fc_base.specs.Sheet.{Sheet}
use Rattle.fc_base.specs.Tables.{Tables}
use Rattle.fc_base.specs.declared.command.Command.{Command}
use Rattle.fc_base.specs.declared.command.Command.TheVariants.{Read as ReadLine, Write as WriteLine, Mkpreset}
use Rattle.fc_base.specs.declared.decision.Decision.{Decision}
use Rattle.fc_base.specs.declared.decision.LaneEvent.{LaneEvent}
use Rattle.fc_base.specs.declared.fault.Refusal.{Refusal}
use Rattle.fc_base.specs.declared.fault.Refusal.TheVariants.{Words}
use Rattle.fc_base.specs.declared.ids.GrainNo.{GrainNo}
use Rattle.fc_base.specs.declared.ids.MapId.{MapId}
use Rattle.fc_base.specs.declared.ids.VolId.{VolId}
use Rattle.fc_base.specs.declared.request.Effect.{Effect}
use Rattle.fc_base.specs.declared.request.Place.TheVariants.{Lane, Every, Control}
use Rattle.fc_base.specs.declared.request.Reply.{Reply}
use Rattle.fc_base.specs.declared.request.Reply.TheVariants.{NoMemory, Refused}
use Rattle.fc_base.specs.declared.request.Request.{Request}
use Rattle.fc_base.specs.declared.request.Request.TheVariants.{Command as Asked, Unread, Read, Write, Copy, Clean, CopyTurn, CleanTurn}
use Rattle.fc_base.specs.declared.size.GrainSize.{GrainSize}
use Rattle.fc_base.specs.declared.volume.Volume.{Volume}
use Rattle.fc_books.specs.After.{sheet_after}
use Rattle.fc_books.specs.Deciding.{settle, decide, after_decision, IsLoopOf}
use Rattle.fc_books.specs.Refused.{access_refused, preset_refused}
use Rattle.fc_changed.specs.Row.{Row}
use Rattle.fc_entry.specs.Picture.{grain_of_block}
use Rattle.fc_entry.specs.PlainStep.{plain_step, after_effects}
use Rattle.fc_entry.specs.declared.entry.Entry.{Entry}
use Rattle.fc_follow.specs.Following.{restarts, rows_entry, rows_event}
use Rattle.fc_legal.specs.Whole.{Whole, lanes, lane_of_grain, lane_at, part_at, single_lane, as_one}
use Rattle.fc_rules.specs.LaneRight.{CleanAnswers, CopyAnswers, LaneAnswers, TurnAnswers, done_write}
use Rattle.fc_rules.specs.LaneTold.{sheet_entry}
use Rattle.fc_rules.specs.LaneTurn.{next_clean, next_copy}
use Rattle.fc_rules.specs.Rooms.{rooms_entry}

-- ---- entries that no lane makes

-- Nothing was moved, no disk was called, and none is spoken of.
pub record IsApart (entry : Entry) : Type 0 where
  pub no_moves : entry.moves ≡ []
  pub untorn : entry.torn ≡ None
  pub no_calls : entry.calls ≡ 0
  pub no_faults_before : entry.faults_before ≡ 0
  pub no_faults_after : entry.faults_after ≡ 0

-- The first so many entries are there.
abbrev pub one_more : Whole → Whole
one_more w = record w { entries = w.entries + 1 }

-- A refused access or preset and an unread line: they settle nothing and do nothing.
pub record IsRefused (refusal : Refusal) (w : Whole) (entry : Entry) (next : Whole) : Type 0 where
  pub place : entry.place ≡ Control
  pub apart : IsApart entry
  pub reply : entry.reply ≡ Refused refusal
  pub no_effects : entry.effects ≡ []
  pub next_is : next ≡ one_more w

abbrev pub MustBeRefused : Option Refusal → Whole → Entry → Whole → Type 0
MustBeRefused None w entry next = ⊥
MustBeRefused (Some refusal) w entry next = IsRefused refusal w entry next

-- What is kept of incremental mappings after these events: each notes what it does to the chains as they are before it.
abbrev pub rows_after : Sheet → List Row → List LaneEvent → List Row
rows_after s rows [] = rows
rows_after s rows (event ∷ events) = rows_after (sheet_after (restarts rows) s event) (rows_event s.slots rows event) events

-- What is told after a decision: the books by its events and changes, where the slot of a mapping that starts again holds its
-- restart set; plain volumes by its effects; and what is kept of incremental mappings by its events.
abbrev pub left_by : GrainSize → Whole → Decision → Whole
left_by grain w d =
    record w {
      books = after_decision (restarts w.rows) w.books d;
      picture = after_effects grain w.picture d.effects;
      rows = rows_after w.books.sheet w.rows d.events;
    }

-- Any other command settles, and then is decided. For want of memory it leaves all as it was, or leaves it settled; then no flag
-- of background work is set.
abbrev pub after_settling : GrainSize → Whole → Whole
after_settling grain w = left_by grain w (settle w.books)

abbrev pub decided_on : GrainSize → Whole → Command → Option (List VolId) → Decision
decided_on grain w command loop = decide (restarts w.rows) grain w.books command loop

-- The reply and the effects of its entry, and what is told after it.
pub data CommandLeft (grain : GrainSize) (w : Whole) (command : Command) : Reply → List Effect → Whole → Type 0 where
  decided : (loop : Option (List VolId)) → IsLoopOf grain (after_settling grain w).books command loop →
      CommandLeft grain w command
      (decided_on grain (after_settling grain w) command loop).reply
      ((settle w.books).effects ++ (decided_on grain (after_settling grain w) command loop).effects)
      (left_by grain (after_settling grain w) (decided_on grain (after_settling grain w) command loop))
  unsettled : CommandLeft grain w command NoMemory [] w
  settled_alone : CommandLeft grain w command NoMemory (settle w.books).effects (after_settling grain w)

pub record CommandStep (grain : GrainSize) (w : Whole) (command : Command) (entry : Entry) (next : Whole) : Type 0 where
  pub place : entry.place ≡ Every
  pub apart : IsApart entry
  pub left : Whole
  pub leaves : CommandLeft grain w command entry.reply entry.effects left
  pub next_is : next ≡ one_more left

abbrev pub CommandIsRight : GrainSize → Whole → Command → Entry → Whole → Type 0
CommandIsRight grain w (ReadLine volume block count) entry next = MustBeRefused (access_refused grain w.books volume block count) w entry next
CommandIsRight grain w (WriteLine volume block count byte) entry next = MustBeRefused (access_refused grain w.books volume block count) w entry next
CommandIsRight grain w (Mkpreset source preset name) entry next = MustBeRefused (preset_refused w.books source) w entry next
CommandIsRight grain w command entry next = CommandStep grain w command entry next

-- ---- entries of lanes

-- What is told after an entry of a lane: what it moved, wrote and tore, its faults and calls.
abbrev pub after_access : GrainSize → Whole → ℕ → Entry → Whole
after_access grain w i entry =
    record w {
      books = record w.books {
        sheet = sheet_entry (single_lane grain) w.books.sheet (done_write entry.request entry.reply) entry.moves entry.torn;
        rooms = rooms_entry (single_lane grain) w.picture w.books.rooms entry;
      };
      picture = plain_step grain w.picture entry;
      rows = rows_entry (single_lane grain) w.rows entry;
      faults = slice_set w.faults i entry.faults_after;
      calls = slice_set w.calls i (slice_index_or w.calls i 0 + entry.calls);
      entries = w.entries + 1;
    }

-- An entry of this lane: it begins with the lane's faults, which never fall, has no effects, and answers so.
pub record LaneStep (grain : GrainSize) (w : Whole) (i : ℕ) (Answers : Entry → Type 0) (entry : Entry) (next : Whole) : Type 0 where
  pub place : entry.place ≡ Lane i
  pub faults_before : entry.faults_before ≡ slice_index_or w.faults i 0
  pub faults_kept : entry.faults_before ≤ entry.faults_after
  pub no_effects : entry.effects ≡ []
  pub answers : Answers entry
  pub next_is : next ≡ after_access grain w i entry

-- An entry at a grain: it is of the grain's lane, and answers as its request may by all chains and all plain volumes.
abbrev pub AccessStep : GrainSize → Whole → ℕ → Entry → Whole → Type 0
AccessStep grain w number entry next =
    LaneStep grain w (lane_of_grain w number) (λ e. LaneAnswers (single_lane grain) (as_one w) e.request e) entry next

-- One block or more of a volume that is there, all inside it and inside one grain.
pub record IsInside (grain : GrainSize) (t : Tables) (volume : VolId) (block count : ℕ) : Type 0 where
  pub of : Volume
  pub there : Contains t.volumes of
  pub id_is : of.id ≡ volume
  pub some : 1 ≤ count
  pub in_one : block % grain_blocks grain + count ≤ grain_blocks grain
  pub inside : grain_of_block grain block < of.grains

-- A turn of a worker in this lane: it takes the next work of the lane, which answers by all chains and all plain volumes.
pub record TurnStep (grain : GrainSize) (w : Whole) (i : ℕ) (Answers : MapId → GrainNo → Entry → Type 0) (work : Option (MapId × GrainNo)) (entry : Entry) (next : Whole) : Type 0 where
  pub within : i < lanes w
  pub step : LaneStep grain w i (TurnAnswers Answers work) entry next

-- ---- all

-- By the request.
abbrev pub RequestStep : GrainSize → Whole → Request → Entry → Whole → Type 0
RequestStep grain w (Asked command) entry next = CommandIsRight grain w command entry next
RequestStep grain w (Unread fault) entry next = IsRefused (Words fault) w entry next
RequestStep grain w (Read part) entry next =
    IsInside grain w.books.tables part.volume part.block part.count × AccessStep grain w (grain_of_block grain part.block) entry next
RequestStep grain w (Write part) entry next =
    IsInside grain w.books.tables part.volume part.block part.count × AccessStep grain w (grain_of_block grain part.block) entry next
RequestStep grain w (Copy m g) entry next = AccessStep grain w g.0 entry next
RequestStep grain w (Clean m g) entry next = AccessStep grain w g.0 entry next
RequestStep grain w (CopyTurn lane) entry next =
    TurnStep grain w lane (CopyAnswers (single_lane grain) (as_one w)) (next_copy (lane_at grain w lane) (part_at grain w lane)) entry next
RequestStep grain w (CleanTurn lane) entry next =
    TurnStep grain w lane (CleanAnswers (single_lane grain) (as_one w)) (next_clean (lane_at grain w lane) (part_at grain w lane)) entry next

-- Its number is the next.
pub record Step (grain : GrainSize) (w : Whole) (entry : Entry) (next : Whole) : Type 0 where
  pub number : entry.number ≡ w.entries
  pub right : RequestStep grain w entry.request entry next
