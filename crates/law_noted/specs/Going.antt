-- How an entry in hand goes on without data, what a stop finds of it, and how it ends.
use Rattle.std.specs.Prelude.{◌≡◌, ℕ, ◌<◌, ◌≤◌, Bool, true, cond, not, List, [], ◌∷◌, ◌++◌, filter, take, Option, Some, None}
use Rattle.std.specs.List.{list_any}
use Rattle.fc_base.specs.Count.{HasRisen}
use Rattle.fc_base.specs.declared.ids.GrainNo.{GrainNo}
use Rattle.fc_base.specs.declared.ids.VolId.{VolId}
use Rattle.fc_base.specs.declared.request.Move.{Move}
use Rattle.fc_base.specs.declared.request.Request.{Request}
use Rattle.fc_base.specs.declared.request.Side.TheVariants.{Now, Under}
use Rattle.fc_base.specs.declared.request.Side.{Side}
use Rattle.fc_base.specs.declared.request.WritePart.{WritePart}
use Rattle.fc_base.specs.declared.size.GrainSize.{GrainSize}
use Rattle.fc_changed.specs.Row.{Row}
use Rattle.fc_entry.specs.declared.entry.Entry.{Entry}
use Rattle.fc_follow.specs.Following.{rows_entry}
use Rattle.fc_image.specs.declared.record.MetaRecord.{MetaRecord}
use Rattle.fc_image.specs.declared.record.MetaRecord.TheVariants.{Changing}
use Rattle.fc_kept.specs.Actions.{is_unmarked}
use Rattle.fc_kept.specs.Disks.{NamedDisk}
use Rattle.fc_kept.specs.Kept.{kept_after}
use Rattle.fc_kept.specs.Marks.{least_entry}
use Rattle.fc_kept.specs.Prefix.{AreStepsOf}
use Rattle.fc_lane.specs.Doing.{HasBegun}
use Rattle.fc_lane.specs.Lane.{IsLaneOf, LaneView, of}
use Rattle.fc_lane.specs.declared.doing.Doing.{Doing}
use Rattle.fc_legal.specs.Stands.{Stands}
use Rattle.fc_legal.specs.Steps.{Step, after_access}
use Rattle.fc_legal.specs.Whole.{Whole, lane_at, lanes, part_at, part_of_rows, single_lane}
use Rattle.fc_marks.specs.Marks.{is_at, is_open_any, marked}
use Rattle.fc_marks.specs.declared.marks.Mark.{Mark}
use Rattle.fc_parts.specs.Law.{IsInVolume}
use Rattle.fc_rules.specs.Steps.{DiskStep}
use Rattle.fc_steps.specs.Asking.{done_of, reply_in, request_of}
use Rattle.fc_steps.specs.StepsEnd.{torn_in}
use Rattle.fc_steps.specs.UnderWay.{next_of}
use Rattle.fc_steps.specs.declared.ask.Ask.{Ask}
use Rattle.fc_steps.specs.declared.ask.Ask.TheVariants.{Write, Copy, Clean}
use Rattle.fc_steps.specs.declared.body.StepEnd.{StepEnd}
use Rattle.fc_steps.specs.declared.stepping.Next.TheVariants.{Move as NextMove, Own, Over}
use Rattle.fc_steps.specs.declared.stepping.Steps.{Steps}
use Rattle.fc_steps.specs.declared.stop.Stop.{Stop}
use Rattle.fc_steps.specs.declared.stop.Stop.TheVariants.{Failed, NoMemory}
use Rattle.law_agreeing.specs.Agreeing.{AllAgree}
use Rattle.law_crash.specs.Doing.{noted}
use Rattle.law_crash.specs.Law.{Begins}
use Rattle.law_crash.specs.Leaving.{HaveTheirDisks}
use Rattle.law_crash.specs.Points.{Point}
use Rattle.law_noted.specs.Advancing.{uncopied}
use Rattle.law_noted.specs.DataSteps.{GoAlong, IsInHand, IsNextStep, copies_nothing}
use Rattle.law_noted.specs.One.{IsSafe}
use Rattle.law_noted.specs.Records.{kept_by}
use Rattle.law_noted.specs.Runs.{HasRun}

-- ---- an entry that is over

-- What its lane tells of it.
pub record IsEntryOf (doing : Doing) (entry : Entry) : Type 0 where
  pub request : entry.request ≡ request_of doing.steps.ask
  pub reply : entry.reply ≡ reply_in (done_of doing.steps.ask) doing.steps.stop
  pub moves : entry.moves ≡ take doing.steps.made doing.steps.planned.moves
  pub torn : entry.torn ≡ torn_in doing.steps.stop
  pub no_effects : entry.effects ≡ []

-- The volume whose grain it notes as changed: the one that was written, or whose grain a failed write tore that it shows.
abbrev pub torn_side : Side → VolId → Option VolId
torn_side Now volume = Some volume
torn_side Under volume = None

abbrev pub volume_torn : Stop → Option VolId
volume_torn (Failed None) = None
volume_torn (Failed (Some torn)) = torn_side torn.side torn.volume
volume_torn NoMemory = None

abbrev pub volume_written : WritePart → Option Stop → Bool → Option VolId
volume_written part None written = cond written (Some part.volume) None
volume_written part (Some stop) written = volume_torn stop

abbrev pub volume_by : Ask → Option Stop → Bool → Option VolId
volume_by (Write part) stop written = volume_written part stop written
volume_by (Copy m grain) stop written = None
volume_by (Clean m grain) stop written = None

abbrev pub volume_noted : Steps → Option VolId
volume_noted s = volume_by s.ask s.stop s.written

-- Its marks are forgotten.
abbrev pub marks_left : Option VolId → GrainNo → List Mark → List Mark
marks_left None grain marks = marks
marks_left (Some volume) grain marks = filter (λ mark. not (is_at volume grain mark)) marks

-- ---- the law

pub record GoingLaw : Type 0 where
  -- where a history led to a point, a write, a copy or a cleaning may begin
  pub begins : (grain : GrainSize) (entries : List Entry) (w : Whole) (least : List Row) (p : Point) (request : Request) (steps : List DiskStep) → HasRun grain entries w least p → w.entries ≤ 262144 →
      IsInVolume grain w request → AreStepsOf grain w request steps → Begins grain w least request steps p
  -- one that began in its lane is in hand
  pub first : (grain : GrainSize) (w : Whole) (least : List Row) (place number actor decisions : ℕ) (ask : Ask) (doing : Doing) (begun new : LaneView) (steps : List DiskStep) (p : Point) →
      Stands decisions w → Begins grain w least (request_of ask) steps p → HaveTheirDisks w p.disks → place < lanes w → of begun ≡ lane_at grain w place → IsLaneOf begun (part_at grain w place) →
      HasBegun begun number actor ask doing new → IsInHand grain w least place doing begun new steps p None p
  -- whatever disks agree with those of its point, by metadata with the record that is due, what stands may be recovered
  pub found : (grain : GrainSize) (w : Whole) (least : List Row) (place : ℕ) (doing : Doing) (begun now : LaneView) (steps : List DiskStep) (before : Point) (due : Option MetaRecord) (q : Point) (back : List (List NamedDisk)) →
      IsInHand grain w least place doing begun now steps before due q → AllAgree grain (kept_by due q.kept) q.disks back →
      IsSafe grain back q.kept w least (Some (request_of doing.steps.ask)) (HasRisen begun.grains.faults now.grains.faults)
  -- the record that is due is put, and changes no rows
  pub put : (grain : GrainSize) (w : Whole) (least : List Row) (place : ℕ) (doing : Doing) (begun now : LaneView) (steps : List DiskStep) (before : Point) (r : MetaRecord) (q : Point) →
      IsInHand grain w least place doing begun now steps before (Some r) q →
      IsInHand grain w least place doing begun now steps before None (noted r q) × ((kept_after q.kept r).rows ≡ q.kept.rows)
  -- a write that is next is to be marked where metadata's rows have its grain as the same
  pub wanted : (grain : GrainSize) (w : Whole) (least : List Row) (place : ℕ) (doing : Doing) (begun now : LaneView) (steps : List DiskStep) (before q : Point) (part : WritePart) (marks : List Mark) →
      IsInHand grain w least place doing begun now steps before None q → begun.changes.rows ≡ part_of_rows (lane_at grain w place) w.rows → next_of doing.steps ≡ Own part → q.kept.rows ≡ marked marks w.rows →
      is_open_any now.changes.rows marks part.volume doing.steps.grain doing.steps.place ≡ list_any (is_unmarked part.volume.0 doing.steps.grain.0) q.kept.rows
  pub marks : (grain : GrainSize) (w : Whole) (least : List Row) (place : ℕ) (doing : Doing) (begun now : LaneView) (steps : List DiskStep) (before q : Point) (part : WritePart) →
      IsInHand grain w least place doing begun now steps before None q → next_of doing.steps ≡ Own part → list_any (is_unmarked part.volume.0 doing.steps.grain.0) q.kept.rows ≡ true →
      IsInHand grain w least place doing begun now steps before None (noted (Changing part.volume doing.steps.grain) q)
  -- the record of a move that copies nothing is put before it: that may be recovered
  pub uncopied_found : (grain : GrainSize) (w : Whole) (least : List Row) (place : ℕ) (doing : Doing) (begun now : LaneView) (steps : List DiskStep) (before q : Point) (m : Move) (back : List (List NamedDisk)) →
      IsInHand grain w least place doing begun now steps before None q → next_of doing.steps ≡ NextMove m → copies_nothing now doing.steps.place m ≡ true → AllAgree grain q.kept q.disks back →
      IsSafe grain back (kept_after q.kept (uncopied m)) w least (Some (request_of doing.steps.ask)) (HasRisen begun.grains.faults now.grains.faults)
  -- and then it is made, over the same disks
  pub uncopied : (grain : GrainSize) (w : Whole) (least : List Row) (place : ℕ) (doing : Doing) (begun now : LaneView) (steps : List DiskStep) (before q : Point) (m : Move) (end : StepEnd) (doing_new : Doing) (new : LaneView) →
      IsInHand grain w least place doing begun now steps before None q → next_of doing.steps ≡ NextMove m → copies_nothing now doing.steps.place m ≡ true → IsNextStep doing now end doing_new new →
      IsInHand grain w least place doing_new begun new steps before None (noted (uncopied m) q) × GoAlong grain w place q.kept (kept_after q.kept (uncopied m)) now.grains new.grains q.disks q.disks
  -- the entry of steps that are over leads the history to its point
  pub ends : (grain : GrainSize) (w : Whole) (least : List Row) (place : ℕ) (doing : Doing) (begun now : LaneView) (steps : List DiskStep) (before q : Point) (entries : List Entry) (entry : Entry) (i : ℕ) →
      IsInHand grain w least place doing begun now steps before None q → next_of doing.steps ≡ Over → IsEntryOf doing entry → HasRun grain entries w least before → Step grain w entry (after_access grain w i entry) →
      HasRun grain (entries ++ entry ∷ []) (after_access grain w i entry) (least_entry (single_lane grain) least entry) q
  -- and the rows of metadata are those of the history with it, but for other writes that are marked
  pub rows : (grain : GrainSize) (w : Whole) (least : List Row) (place : ℕ) (doing : Doing) (begun now : LaneView) (steps : List DiskStep) (before q : Point) (entry : Entry) (marks : List Mark) →
      IsInHand grain w least place doing begun now steps before None q → next_of doing.steps ≡ Over → IsEntryOf doing entry → q.kept.rows ≡ marked marks w.rows →
      q.kept.rows ≡ marked (marks_left (volume_noted doing.steps) doing.steps.grain marks) (rows_entry (single_lane grain) w.rows entry)
