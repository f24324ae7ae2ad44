-- When a noted store stands for a history.
use Rattle.std.specs.Prelude.{◌≡◌, ◌⊎◌, ℕ, ◌<◌, ◌≤◌, ◌^◌, All, Bool, true, false, List, [], ◌∷◌, ◌++◌, codes, length, slice_set, Option, Some, None}
use Rattle.fc_base.specs.declared.limits.TheConstants.{LANES}
use Rattle.fc_base.specs.declared.size.GrainSize.{GrainSize}
use Rattle.fc_changed.specs.Row.{Row}
use Rattle.fc_entry.specs.HistoryState.{HistoryState}
use Rattle.fc_entry.specs.declared.entry.Entry.{Entry}
use Rattle.fc_format.specs.Halves.{Image}
use Rattle.fc_format.specs.Ranges.{HasGoodIds}
use Rattle.fc_image.specs.declared.image.MetaImage.{MetaImage}
use Rattle.fc_image.specs.declared.record.MetaRecord.{MetaRecord}
use Rattle.fc_kept.specs.Actions.{Action}
use Rattle.fc_kept.specs.Images.{kept_in}
use Rattle.fc_kept.specs.Prefix.{AreStepsOf}
use Rattle.fc_kept.specs.Sound.{IsSoundImage}
use Rattle.fc_lane.specs.Doing.{IsUnderWay}
use Rattle.fc_lanes.specs.Dealing.{Begin, all_dealt, pools_dealt}
use Rattle.fc_legal.specs.Added.{IsTold}
use Rattle.fc_legal.specs.Agenda.{Asks}
use Rattle.fc_legal.specs.Whole.{Whole, opened}
use Rattle.fc_mdisk.specs.Disk.{DiskState, IsFresh}
use Rattle.fc_meta.specs.Answers.{more_calls}
use Rattle.fc_meta.specs.States.{IsResting, found, room_of}
use Rattle.fc_meta.specs.declared.meta.Meta.{Meta}
use Rattle.fc_parts.specs.Law.{IsInVolume}
use Rattle.fc_rules.specs.Steps.{DiskStep}
use Rattle.fc_script.specs.Asking.{Fits, IsAnswer, IsLeft, IsNext}
use Rattle.fc_script.specs.Passage.{GoesOn}
use Rattle.fc_script.specs.Script.{agenda_of}
use Rattle.fc_script.specs.declared.script.Script.{Script}
use Rattle.fc_stands.specs.Store.{StandsFor, StoreView}
use Rattle.fc_steps.specs.Asking.{request_of}
use Rattle.fc_store.specs.Stepping.{lane_in}
use Rattle.law_crash.specs.Points.{Point}
use Rattle.law_noted.specs.Came.{Came, steps_done}
use Rattle.law_noted.specs.Records.{kept_by}
use Rattle.law_noted.specs.Runs.{HasRun}
use Rattle.fc_held.specs.Held.{HaveVolumes, MatchAll}
use Rattle.fc_marks.specs.Marks.{marked}
use Rattle.fc_marks.specs.Meter.{IsMetered, Meter}
use Rattle.fc_noted.specs.Metered.{Acted, Metered, after_actions}
use Rattle.fc_noted.specs.declared.noted.Noted.{Noted}
use Rattle.fc_noted.specs.declared.noted.UnderWay.{UnderWay}

-- The history of `main` alone, without entries.
abbrev pub NoHistory : HistoryState
NoHistory = record { actors = codes "main" ∷ []; entries = [] }

-- A store without volumes, whose lanes begin over these fresh disks, so many in all.
pub record BeginsOver (count : ℕ) (disks : List DiskState) (s : StoreView) : Type 0 where
  pub counted : length disks ≡ count
  pub few : count < 2 ^ 30
  pub fresh : All IsFresh disks
  pub stands : StandsFor s (opened (pools_dealt LANES disks))
  pub begin : Begin s.control.grain LANES (all_dealt LANES disks) s.lanes

module _ {C D : Type 0} (seen : D → List ℕ) (may_leave : D → List ℕ → Type 0) where
  -- Metadata stands for what a point keeps, all of it synced; its rows are those of the history, but for writes that are marked. And
  -- the disks of the point are those that the lanes hold, by metadata with the record that is due.
  pub record Keeps (grain : GrainSize) (meta : Meta D) (n : Noted C D) (w : Whole) (due : Option MetaRecord) (q : Point) : Type 0 where
    pub rests : IsResting seen may_leave meta
    pub image : MetaImage
    pub says : found seen meta ≡ Image image
    pub sound : IsSoundImage image
    pub good : HasGoodIds image
    pub kept : kept_in image ≡ q.kept
    pub rows : q.kept.rows ≡ marked n.marks.items w.rows
    pub named : n.named ≡ w.books.next_volume
    pub volumes : HaveVolumes n.disks n.store
    pub matches : MatchAll grain n.named (kept_by due q.kept) n.store.lanes q.disks

  -- The disk of metadata was called as often as the history costs, by the count.
  pub record Counts (n : Noted C D) (entries : List Entry) (w : Whole) : Type 0 where
    pub meter : Meter
    pub metered : Metered n.store.control.grain (room_of seen n.meta) entries w meter
    pub is : IsMetered seen n.meta meter
    pub calls : n.calls ≡ more_calls meter.calls 0

  -- And by the actions so far of an entry that is under way, which began with these rows of metadata and led to those.
  pub record CountsSoFar (grain : GrainSize) (n : Noted C D) (way : UnderWay) (entries : List Entry) (w : Whole) (steps : List DiskStep) (rows now : List Row) : Type 0 where
    pub before : Meter
    pub metered : Metered grain (room_of seen n.meta) entries w before
    pub same : (kept_in before.image).rows ≡ rows
    pub actions : List Action
    pub acted : Acted grain (request_of way.doing.steps.ask) steps (steps_done way.doing.steps) way.doing.steps.stop way.due rows now actions
    pub is : IsMetered seen n.meta (after_actions (room_of seen n.meta) before actions)
    pub calls : n.calls ≡ more_calls (after_actions (room_of seen n.meta) before actions).calls 0

  -- No entry is under way: the store stands for what is told, and its disks and metadata for a point to which the history led.
  pub record IsNotedAt (n : Noted C D) (history : HistoryState) (w : Whole) (least : List Row) : Type 0 where
    pub idle : n.under_way ≡ None
    pub told : IsTold (StandsFor n.store) history w
    pub fits : Fits n.store.control.grain n.store.control.tables n.script
    pub point : Point
    pub run : HasRun n.store.control.grain history.entries w least point
    pub keeps : Keeps n.store.control.grain n.meta n w None point
    pub counts : Counts n history.entries w

  -- An entry is under way in one lane: the store stood for what is told when it began, and in that lane its steps came so far. The
  -- script asks it next.
  pub record IsDoing (n : Noted C D) (way : UnderWay) (history : HistoryState) (w : Whole) (least : List Row) : Type 0 where
    pub begun : StoreView
    pub few : w.entries < 262144
    pub told : IsTold (StandsFor begun) history w
    pub inside : way.place < length begun.lanes
    pub since : n.store ≡ record begun { lanes = slice_set begun.lanes way.place (lane_in n.store way.place) }
    pub fits : Fits n.store.control.grain n.store.control.tables n.script
    pub under : IsUnderWay (lane_in begun way.place) way.doing (lane_in n.store way.place)
    pub number : way.doing.number ≡ length history.entries
    pub by_main : way.doing.actor ≡ 0
    pub asked : Asks begun.control.grain (agenda_of begun.control.grain n.script) w (0, request_of way.doing.steps.ask)
    pub steps : List DiskStep
    pub in_volume : IsInVolume begun.control.grain w (request_of way.doing.steps.ask)
    pub steps_are : AreStepsOf begun.control.grain w (request_of way.doing.steps.ask) steps
    pub before : Point
    pub run : HasRun begun.control.grain history.entries w least before
    pub point : Point
    pub came : Came begun.control.grain w (request_of way.doing.steps.ask) before.kept.rows steps before (steps_done way.doing.steps) way.doing.steps.stop way.due point
    pub keeps : Keeps begun.control.grain n.meta n w way.due point
    pub counts : CountsSoFar begun.control.grain n way history.entries w steps before.kept.rows point.kept.rows

  abbrev pub IsAtBy : Option UnderWay → Noted C D → HistoryState → Whole → List Row → Type 0
  IsAtBy None n history w least = IsNotedAt n history w least
  IsAtBy (Some way) n history w least = IsDoing n way history w least

  -- Either.
  abbrev pub IsAt : Noted C D → HistoryState → Whole → List Row → Type 0
  IsAt n history w least = IsAtBy n.under_way n history w least

  -- A step may be made.
  pub record CanStep (n : Noted C D) (history : HistoryState) : Type 0 where
    pub live : n.live ≡ true
    pub w : Whole
    pub least : List Row
    pub at : IsAt n history w least
    pub room : length history.entries ≤ 262144

  -- The next entry may begin.
  pub record CanBegin (n : Noted C D) (history : HistoryState) : Type 0 where
    pub live : n.live ≡ true
    pub w : Whole
    pub least : List Row
    pub at : IsNotedAt n history w least
    pub room : length history.entries ≤ 262144

  -- A step logged nothing, and what was told is told.
  pub record Stays (w : Whole) (least : List Row) (old_history : HistoryState) (old new : Noted C D) (new_history : HistoryState) : Type 0 where
    pub same : new_history ≡ old_history
    pub live : new.live ≡ true
    pub grain : new.store.control.grain ≡ old.store.control.grain
    pub at : IsAt new new_history w least
    pub goes : GoesOn new.store.control.grain w (agenda_of new.store.control.grain old.script) (agenda_of new.store.control.grain new.script)

  -- Or it logged the entry of what the script asks next, and the script goes on behind it.
  pub record Logs (w : Whole) (least : List Row) (old_history : HistoryState) (old new : Noted C D) (new_history : HistoryState) : Type 0 where
    pub entry : Entry
    pub next : Whole
    pub least_next : List Row
    pub room : length old_history.entries < 262144
    pub pushed : new_history ≡ record old_history { entries = old_history.entries ++ entry ∷ [] }
    pub live : new.live ≡ true
    pub grain : new.store.control.grain ≡ old.store.control.grain
    pub asking : Script
    pub reached : GoesOn old.store.control.grain w (agenda_of old.store.control.grain old.script) (agenda_of old.store.control.grain asking)
    pub answer : IsAnswer old.store.control.grain asking w entry next
    pub left : IsLeft old.store.control.grain asking w entry next new.script
    pub at : IsAt new new_history next least_next

  -- True where something was left, which the step did a part of; false exactly where nothing is.
  abbrev pub GoesOnTo : Bool → Whole → List Row → Noted C D → HistoryState → Noted C D → HistoryState → Type 0
  GoesOnTo false w least old before new after =
      Stays w least before old new after × IsNext new.store.control.grain w None (agenda_of new.store.control.grain new.script)
  GoesOnTo true w least old before new after = Stays w least before old new after ⊎ Logs w least before old new after
