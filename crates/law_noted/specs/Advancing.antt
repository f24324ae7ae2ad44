-- How the actions of an entry that is under way go on by records and marks, what a stop finds of it, and how it ends.
use Rattle.std.specs.Prelude.{◌≡◌, ℕ, ◌+◌, ◌%◌, ◌<◌, true, false, not, List, [], ◌∷◌, ◌++◌, filter, length, take, Option, Some, None}
use Rattle.std.specs.List.{list_any}
use Rattle.fc_base.specs.declared.ids.GrainNo.{GrainNo}
use Rattle.fc_base.specs.declared.ids.VolId.{VolId}
use Rattle.fc_base.specs.declared.request.Move.{Move}
use Rattle.fc_base.specs.declared.request.Request.{Request}
use Rattle.fc_base.specs.declared.request.Torn.{Torn as TornGrain}
use Rattle.fc_base.specs.declared.size.GrainSize.{GrainSize}
use Rattle.fc_changed.specs.Notes.Note.{Wrote}
use Rattle.fc_changed.specs.Row.{Row, after_note}
use Rattle.fc_entry.specs.declared.entry.Entry.{Entry}
use Rattle.fc_follow.specs.Following.{rows_entry}
use Rattle.fc_image.specs.declared.record.MetaRecord.{MetaRecord}
use Rattle.fc_image.specs.declared.record.MetaRecord.TheVariants.{Pair, Changing}
use Rattle.fc_kept.specs.Actions.{is_unmarked, mark_of}
use Rattle.fc_kept.specs.Disks.{NamedDisk}
use Rattle.fc_kept.specs.Kept.{Kept, kept_after, rows_kept}
use Rattle.fc_kept.specs.Marks.{asked_write, least_entry}
use Rattle.fc_kept.specs.Prefix.{AreStepsOf}
use Rattle.fc_legal.specs.Steps.{after_access}
use Rattle.fc_legal.specs.Whole.{Whole, lanes, part_of_rows, single_lane}
use Rattle.fc_marks.specs.Marks.{is_at, is_open_any, marked}
use Rattle.fc_marks.specs.declared.marks.Mark.{Mark}
use Rattle.fc_parts.specs.Law.{IsInVolume}
use Rattle.fc_rules.specs.LaneTold.{LaneOf, place_of}
use Rattle.fc_rules.specs.Steps.{DiskStep}
use Rattle.fc_steps.specs.StepsEnd.{torn_in}
use Rattle.fc_steps.specs.declared.stop.Stop.{Stop}
use Rattle.fc_steps.specs.declared.stop.Stop.TheVariants.{Failed}
use Rattle.law_agreeing.specs.Agreeing.{AllAgree}
use Rattle.law_crash.specs.Doing.{Did, Tells, actions_of_steps, noted, number_of}
use Rattle.law_crash.specs.Law.{Begins}
use Rattle.law_crash.specs.Leaving.{HaveTheirDisks}
use Rattle.law_crash.specs.Points.{Point}
use Rattle.law_crash.specs.Running.{Does, Takes}
use Rattle.law_noted.specs.Came.{Came}
use Rattle.law_noted.specs.One.{IsSafe}

-- A step is the next one behind so many.
pub record IsNext (steps : List DiskStep) (n : ℕ) (step : DiskStep) : Type 0 where
  pub front : List DiskStep
  pub back : List DiskStep
  pub split : steps ≡ front ++ step ∷ back
  pub count : length front ≡ n

-- ---- records

-- The mark of a write that is about to begin, and the record of a move that copies nothing: in place, or where the grain is lost.
abbrev pub mark_at : ℕ → ℕ → MetaRecord
mark_at v g = Changing record { 0 = v } record { 0 = g }

abbrev pub uncopied : Move → MetaRecord
uncopied m = Pair m.slot m.volume m.grain m.in_place (not m.in_place)

pub record RecordLaw : Type 0 where
  -- a record that is due is put
  pub due : (grain : GrainSize) (w : Whole) (request : Request) (rows : List Row) (steps : List DiskStep) (p : Point) (n : ℕ) (stop : Option Stop) (r : MetaRecord) (q : Point) →
      Came grain w request rows steps p n stop (Some r) q → Came grain w request rows steps p n stop None (noted r q)
  -- that of a move that copies nothing is put before the move is made
  pub uncopied : (grain : GrainSize) (w : Whole) (request : Request) (rows : List Row) (steps : List DiskStep) (p : Point) (n : ℕ) (step : DiskStep) (m : Move) (q : Point) →
      IsNext steps n step → step.move ≡ Some m → step.calls ≡ 0 → Came grain w request rows steps p n None None q →
      Came grain w request rows steps p (n + 1) None None (noted (uncopied m) q)

-- ---- marks

pub record MarkingLaw : Type 0 where
  -- a lane that has the grain wants a mark of a write exactly where by metadata's rows a row that names the volume has it as the same
  pub wanted : (l : LaneOf) (marks : List Mark) (rows : List Row) (volume : VolId) (grain : GrainNo) → l.lane < l.lanes → grain.0 % l.lanes ≡ l.lane →
      is_open_any (part_of_rows l rows) marks volume grain (place_of l grain.0) ≡ list_any (is_unmarked volume.0 grain.0) (marked marks rows)
  -- before the write itself its mark is put, where it is wanted
  pub marks : (grain : GrainSize) (w : Whole) (request : Request) (steps : List DiskStep) (p : Point) (n : ℕ) (own : DiskStep) (q : Point) → AreStepsOf grain w request steps →
      IsNext steps n own → own.move ≡ None → Came grain w request p.kept.rows steps p n None None q → list_any (is_unmarked own.volume (number_of grain request)) q.kept.rows ≡ true →
      Came grain w request p.kept.rows steps p n None None (noted (mark_at own.volume (number_of grain request)) q)
  -- else all actions before its data were done
  pub ready : (grain : GrainSize) (w : Whole) (request : Request) (steps : List DiskStep) (p : Point) (n : ℕ) (own : DiskStep) (q : Point) → AreStepsOf grain w request steps →
      (next : IsNext steps n own) → own.move ≡ None → Came grain w request p.kept.rows steps p n None None q → list_any (is_unmarked own.volume (number_of grain request)) q.kept.rows ≡ false →
      Did grain w request w.books.sheet (actions_of_steps p.kept.rows (number_of grain request) next.front ++ mark_of p.kept.rows own.volume (number_of grain request)) p q

-- ---- rows

-- The rows of metadata are those of the history with the grains that are marked.
pub record RowLaw : Type 0 where
  -- a mark that is put is remembered
  pub remembered : (marks : List Mark) (rows : List Row) (volume : VolId) (grain : GrainNo) →
      marked (marks ++ record { volume = volume; grain = grain } ∷ []) rows ≡ rows_kept (marked marks rows) (mark_at volume.0 grain.0)
  -- the record of a step changes none
  pub stay : (grain : GrainSize) (w : Whole) (request : Request) (steps : List DiskStep) (p : Point) (n : ℕ) (stop : Option Stop) (r : MetaRecord) (q : Point) → AreStepsOf grain w request steps →
      Came grain w request p.kept.rows steps p n stop (Some r) q → rows_kept q.kept.rows r ≡ q.kept.rows
  -- behind an entry that notes the write of a grain, its marks are forgotten
  pub forgotten : (marks : List Mark) (rows : List Row) (volume : VolId) (grain : GrainNo) → after_note (marked marks rows) (Wrote volume.0 grain.0) ≡ marked marks rows →
      marked (filter (λ mark. not (is_at volume grain mark)) marks) (after_note rows (Wrote volume.0 grain.0)) ≡ marked marks rows
  -- what an entry notes that is over, all of it or up to a step that stopped, metadata's rows have
  pub whole : (grain : GrainSize) (w : Whole) (request : Request) (steps : List DiskStep) (p : Point) (q : Point) (entry : Entry) → AreStepsOf grain w request steps →
      Came grain w request p.kept.rows steps p (length steps) None None q → Tells request (asked_write request) steps None entry →
      rows_entry (single_lane grain) q.kept.rows entry ≡ q.kept.rows
  pub stopped : (grain : GrainSize) (w : Whole) (request : Request) (steps : List DiskStep) (p : Point) (n : ℕ) (stop : Stop) (q : Point) (entry : Entry) → AreStepsOf grain w request steps →
      Came grain w request p.kept.rows steps p n (Some stop) None q → Tells request None (take n steps) (torn_in (Some stop)) entry →
      rows_entry (single_lane grain) q.kept.rows entry ≡ q.kept.rows

-- ---- what a stop finds

-- A step stopped as its write failed, which tore the grain.
abbrev pub HasTorn : Option Stop → Type 0
HasTorn stop = (torn : TornGrain) × (stop ≡ Some (Failed (Some torn)))

-- The disks are known but for what is lost by metadata with the record that is due, if one is. Each volume had its disk when the entry
-- began.
pub record StopLaw : Type 0 where
  -- nothing is due: also right behind a record, and before the next step
  pub rests : (grain : GrainSize) (w : Whole) (least : List Row) (request : Request) (steps : List DiskStep) (p : Point) (n : ℕ) (stop : Option Stop) (q : Point) (back : List (List NamedDisk)) →
      Begins grain w least request steps p → Came grain w request p.kept.rows steps p n stop None q → AllAgree grain q.kept q.disks back →
      IsSafe grain back q.kept w least (Some request) (HasTorn stop)
  -- the data of a step were written, and their record isn't put
  pub due : (grain : GrainSize) (w : Whole) (least : List Row) (request : Request) (steps : List DiskStep) (p : Point) (n : ℕ) (stop : Option Stop) (r : MetaRecord) (q : Point) (back : List (List NamedDisk)) →
      Begins grain w least request steps p → 0 < lanes w → HaveTheirDisks w p.disks →
      Came grain w request p.kept.rows steps p n stop (Some r) q → AllAgree grain (kept_after q.kept r) q.disks back →
      IsSafe grain back q.kept w least (Some request) (HasTorn stop)
  -- a mark, and the record of a move that copies nothing, leave no grain that was lost
  pub marked : (grain : GrainSize) (k : Kept) (v g : ℕ) (old new : List (List NamedDisk)) → AllAgree grain k old new → AllAgree grain (kept_after k (mark_at v g)) old new
  pub uncopied : (grain : GrainSize) (k : Kept) (m : Move) (old new : List (List NamedDisk)) → AllAgree grain k old new → AllAgree grain (kept_after k (uncopied m)) old new

-- ---- how it ends

pub record EndLaw : Type 0 where
  -- all steps were done
  pub whole : (grain : GrainSize) (w : Whole) (least : List Row) (request : Request) (steps : List DiskStep) (p q : Point) (entry : Entry) (i : ℕ) →
      Takes entry.request request → IsInVolume grain w request → AreStepsOf grain w request steps → Came grain w request p.kept.rows steps p (length steps) None None q →
      Tells entry.request (asked_write entry.request) steps None entry →
      Does grain w least p entry (after_access grain w i entry) (least_entry (single_lane grain) least entry) q
  -- or one of them stopped
  pub stopped : (grain : GrainSize) (w : Whole) (least : List Row) (request : Request) (steps : List DiskStep) (p : Point) (n : ℕ) (stop : Stop) (q : Point) (entry : Entry) (i : ℕ) →
      Takes entry.request request → IsInVolume grain w request → AreStepsOf grain w request steps → Came grain w request p.kept.rows steps p n (Some stop) None q →
      Tells entry.request None (take n steps) (torn_in (Some stop)) entry →
      Does grain w least p entry (after_access grain w i entry) (least_entry (single_lane grain) least entry) q
  -- and each volume has its disk still
  pub have : (grain : GrainSize) (w : Whole) (least : List Row) (request : Request) (rows : List Row) (steps : List DiskStep) (p : Point) (n : ℕ) (stop : Option Stop) (due : Option MetaRecord) (q : Point) (entry : Entry) (i : ℕ) →
      Begins grain w least request steps p → 0 < lanes w → HaveTheirDisks w p.disks → Came grain w request rows steps p n stop due q →
      HaveTheirDisks (after_access grain w i entry) q.disks

pub record AdvanceLaw : Type 0 where
  pub records : RecordLaw
  pub marking : MarkingLaw
  pub rows : RowLaw
  pub stops : StopLaw
  pub ends : EndLaw
