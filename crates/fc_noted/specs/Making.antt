-- What a step makes, and what it leaves.
use Rattle.std.specs.Prelude.{◌+◌, ◌≡◌, ◌⊎◌, ℕ, ◌<◌, ◌≤◌, Bool, true, false, List, [], ◌∷◌, ◌++◌, length, Some, None, Result, Ok, Err, IfErr, IfOk, OnErr, OnOk, IsErrOf}
use Rattle.fc_apart.specs.Effects.{IsJoined}
use Rattle.fc_base.specs.Count.{HasRisen}
use Rattle.fc_base.specs.declared.command.Command.{Command}
use Rattle.fc_base.specs.declared.decision.Decision.{Decision}
use Rattle.fc_base.specs.declared.ids.VolId.{VolId}
use Rattle.fc_base.specs.declared.request.Effect.{Effect}
use Rattle.fc_base.specs.declared.request.Place.TheVariants.{Every}
use Rattle.fc_base.specs.declared.request.Request.{Request}
use Rattle.fc_base.specs.declared.request.Request.TheVariants.{Command as Asked}
use Rattle.fc_base.specs.declared.size.GrainSize.{GrainSize}
use Rattle.fc_changed.specs.Row.{Row}
use Rattle.fc_entry.specs.HistoryState.{HistoryState}
use Rattle.fc_entry.specs.declared.entry.Entry.{Entry}
use Rattle.fc_format.specs.Halves.{Image, recovered}
use Rattle.fc_image.specs.declared.image.MetaImage.{MetaImage}
use Rattle.fc_imaging.specs.Imaging.{kept_of, lost_grains}
use Rattle.fc_imaging.specs.Without.{leaving_out}
use Rattle.fc_kept.specs.Images.{meta_of}
use Rattle.fc_lane.specs.Lane.{IsSameLane, LaneView}
use Rattle.fc_lanes.specs.AllLanes.{EachLane}
use Rattle.fc_legal.specs.Added.{IsTold}
use Rattle.fc_legal.specs.Agenda.{Asks}
use Rattle.fc_legal.specs.Lawful.{IsLawful}
use Rattle.fc_legal.specs.Steps.{Step, left_by}
use Rattle.fc_legal.specs.Whole.{Whole}
use Rattle.fc_meta.specs.Answers.{more_calls}
use Rattle.fc_meta.specs.States.{IsResting, disk_of, found, room_of}
use Rattle.fc_metadisk.specs.Disk.{LeavesOnly}
use Rattle.fc_script.specs.Asking.{IsAnswer, IsLeft}
use Rattle.fc_script.specs.Passage.{GoesOn}
use Rattle.fc_script.specs.Script.{agenda_of}
use Rattle.fc_script.specs.declared.script.Script.{Script}
use Rattle.fc_stands.specs.Apart.{entry_apart}
use Rattle.fc_stands.specs.Phase.{StandsAt}
use Rattle.fc_stands.specs.Store.{StandsFor, StoreView}
use Rattle.law_crash.specs.Points.{Point}
use Rattle.law_noted.specs.Records.{removed_by}
use Rattle.law_noted.specs.Runs.{HasRun}
use Rattle.fc_steps.specs.UnderWay.{next_of}
use Rattle.fc_steps.specs.declared.stepping.Next.{Next}
use Rattle.fc_steps.specs.declared.stepping.Next.TheVariants.{Own}
use Rattle.fc_store.specs.Stepping.{lane_in}
use Rattle.law_noted.specs.DataSteps.{Copies}
use Rattle.fc_marks.specs.Marks.{is_open_any}
use Rattle.fc_marks.specs.Meter.{IsCutShort, IsMetered, Meter, with_fold}
use Rattle.fc_noted.specs.Metered.{GoesInto, Metered}
use Rattle.fc_noted.specs.Noted.{Counts, GoesOnTo, IsAt, IsNotedAt, Keeps}
use Rattle.fc_noted.specs.Stopping.{HasStopped, LeavesRecoverable, OfMetadata, StopsInto}
use Rattle.fc_marks.specs.declared.error.NotedStop.{NotedStop}
use Rattle.fc_marks.specs.declared.error.NotedStop.TheVariants.{LogFull, MetaFailed, MetaFull}
use Rattle.fc_noted.specs.declared.noted.Noted.{Noted}
use Rattle.fc_noted.specs.declared.noted.UnderWay.{UnderWay}

-- ---- what comes next of an entry

-- A move that is next copies something.
abbrev pub CopiesNext : {C D : Type 0} → Noted C D → UnderWay → Type 0
CopiesNext n way = Copies (lane_in n.store way.place) way.doing.steps.place (next_of way.doing.steps)

-- A write that is next is marked, where that is wanted.
abbrev pub IsMarkedBy : {C D : Type 0} → Noted C D → UnderWay → Next → Type 0
IsMarkedBy n way (Own part) =
    is_open_any (lane_in n.store way.place).changes.rows n.marks.items part.volume way.doing.steps.grain way.doing.steps.place ≡ false
IsMarkedBy n way next = Unit {0}

abbrev pub IsMarkedNext : {C D : Type 0} → Noted C D → UnderWay → Type 0
IsMarkedNext n way = IsMarkedBy n way (next_of way.doing.steps)

-- ---- results

-- That of a step that takes part of what is asked whenever it is made.
abbrev pub always : Result (Unit {0}) NotedStop → Result Bool NotedStop
always (Ok none) = Ok true
always (Err stop) = Err stop

-- That of a step that no error comes of.
abbrev pub done : Result (Unit {0}) NotedStop
done = Ok tt

-- ---- behind an entry

-- The script goes on behind an entry that answered what it asks, whatever a store stands for with it.
abbrev pub GoesBehind : GrainSize → (Whole → Type 0) → Script → Entry → Script → Type 0
GoesBehind grain Stands script entry new = (w next : Whole) → IsAnswer grain script w entry next → Stands next → IsLeft grain script w entry next new

-- ---- calls of the disk of metadata

-- It was called as often as was counted, and never failed; behind an error at most so often. It failed where that is told, and not
-- where it is told that something passed its half.
pub record KeepsCount {T C D : Type 0} (seen : D → List ℕ) (fault_count calls : D → ℕ) (result : Result T NotedStop) (old new : Noted C D) : Type 0 where
  pub counted : ℕ
  pub made : ℕ
  pub count : new.calls ≡ more_calls counted old.calls
  pub called : calls (disk_of new.meta) ≡ more_calls made (calls (disk_of old.meta))
  pub within : made ≤ counted
  pub whole : OnOk result ((made ≡ counted) × (fault_count (disk_of new.meta) ≡ fault_count (disk_of old.meta)))
  pub failed : IsErrOf result MetaFailed → HasRisen (fault_count (disk_of old.meta)) (fault_count (disk_of new.meta))
  pub unfailed : IsErrOf result MetaFull → fault_count (disk_of new.meta) ≡ fault_count (disk_of old.meta)
  pub size : room_of seen new.meta ≡ room_of seen old.meta

-- The calls that are counted go as far into a request as it goes that is asked next; those of the entries are counted before.
pub record CountsInto {C D : Type 0} (seen : D → List ℕ) (calls : D → ℕ) (stop : NotedStop) (old new : Noted C D) (before : HistoryState) (w : Whole) : Type 0 where
  pub request : Request
  pub asking : Script
  pub reached : GoesOn old.store.control.grain w (agenda_of old.store.control.grain old.script) (agenda_of old.store.control.grain asking)
  pub asked : Asks old.store.control.grain (agenda_of old.store.control.grain asking) w (0, request)
  pub meter : Meter
  pub metered : Metered old.store.control.grain (room_of seen old.meta) before.entries w meter
  pub fits : meter.full ≡ None
  pub paid : more_calls meter.calls 0 ≤ old.calls
  pub into : Meter
  pub goes : GoesInto old.store.control.grain (room_of seen old.meta) w meter request into
  pub stops : StopsInto calls stop old new into

-- ---- a step

module _ {C D : Type 0} (seen : D → List ℕ) (may_leave : D → List ℕ → Type 0) (moment : D → ℕ) (left_since : D → ℕ → List ℕ → Type 0) (calls : D → ℕ) where
  -- On Ok it goes on. At any moment, and behind an error, what a stop leaves may be recovered; an error leaves the history as it was.
  pub record StepMade (result : Result Bool NotedStop) (old new : Noted C D) (before after : HistoryState) : Type 0 where
    pub on : IfOk result (λ more. (w : Whole) (least : List Row) → IsAt seen may_leave old before w least → GoesOnTo seen may_leave more w least old before new after)
    pub any_moment : (w : Whole) (least : List Row) → IsAt seen may_leave old before w least →
        LeavesOnly moment left_since old.meta.disk new.meta.disk (LeavesRecoverable old new w least)
    pub stopped : OnErr result ((w : Whole) (least : List Row) → IsAt seen may_leave old before w least →
        (after ≡ before) × HasStopped may_leave old new w least)
    pub full : IsErrOf result LogFull → 262144 ≤ length before.entries
    pub into : IfErr result (λ stop. OfMetadata stop ((w : Whole) (least : List Row) → IsAt seen may_leave old before w least → CountsInto seen calls stop old new before w))

  -- The same of an entry that was taken out of the noted store.
  abbrev pub WayMade : Result (Unit {0}) NotedStop → Noted C D → UnderWay → Noted C D → HistoryState → HistoryState → Type 0
  WayMade result old way new before after = StepMade (always result) (record old { under_way = Some way }) new before after

-- ---- the disks of lanes

-- Each lane has grains of its size, and as many disks of each kind.
abbrev pub HasItsDisks : LaneView → LaneView → Type 0
HasItsDisks old new = (new.grains.grain ≡ old.grains.grain) × (new.grains.disks ≡ old.grains.disks)

abbrev pub KeepLanes : StoreView → StoreView → Type 0
KeepLanes old new = EachLane HasItsDisks old.lanes new.lanes

-- ---- a command

-- Each lane stays the lane that it is, and the store stands for what it did; or for what a decision leaves.
pub record HasStayed (old new : StoreView) : Type 0 where
  pub grain : new.control.grain ≡ old.control.grain
  pub lanes : EachLane IsSameLane old.lanes new.lanes
  pub stands : (decisions : ℕ) (w : Whole) → StandsAt decisions old w → StandsAt decisions new w

pub record HasActed (d : Decision) (old new : StoreView) : Type 0 where
  pub grain : new.control.grain ≡ old.control.grain
  pub lanes : EachLane IsSameLane old.lanes new.lanes
  pub stands : (decisions : ℕ) (w : Whole) → StandsAt decisions old w → IsLawful old.control.grain decisions w d → StandsAt (decisions + 1) new (left_by old.control.grain w d)

-- An image of what a store stands for; and one without a volume.
abbrev pub told_by : StoreView → Whole → MetaImage
told_by s w = meta_of (kept_of w (lost_grains s.lanes w.books.tables.volumes))

abbrev pub IsImageOf : StoreView → MetaImage → Type 0
IsImageOf s image = (w : Whole) → StandsFor s w → image ≡ told_by s w

abbrev pub IsImageWithout : VolId → StoreView → MetaImage → Type 0
IsImageWithout gone s image = (w : Whole) → StandsFor s w → image ≡ leaving_out gone (told_by s w)

-- What metadata becomes by a decision: an image of the store that did it; or, where a volume goes, one without it of the store that is about to.
pub data IsImageAfter (s : StoreView) (d : Decision) (image : MetaImage) : Type 0 where
  acted : (new : StoreView) → HasActed d s new → removed_by d.events ≡ None → IsImageOf new image → IsImageAfter s d image
  about : (now : StoreView) (gone : VolId) → HasStayed s now → removed_by d.events ≡ Some gone → IsImageWithout gone now image → IsImageAfter s d image

-- The entry of a command that was decided so, whatever was settled before it: with the effects of both.
abbrev pub IsEntryOf : Command → Decision → List Effect → Entry → Type 0
IsEntryOf command d joined entry = (settled : List Effect) → IsJoined settled d.effects joined → entry ≡ entry_apart 0 0 Every (Asked command) d.reply (settled ++ d.effects)

-- Behind an error the decision isn't done, or no volume went by it.
abbrev pub MayHaveActed : Decision → StoreView → StoreView → Type 0
MayHaveActed d old new = HasStayed old new ⊎ (HasActed d old new × (removed_by d.events ≡ None))

module _ {C D : Type 0} (seen : D → List ℕ) (may_leave : D → List ℕ → Type 0) where
  -- Metadata was made anew by what the decision leaves: no write is marked, and all volumes have names.
  pub record IsAnew (d : Decision) (old new : Noted C D) : Type 0 where
    pub rests : IsResting seen may_leave new.meta
    pub image : MetaImage
    pub found_is : found seen new.meta ≡ Image image
    pub after : IsImageAfter old.store d image
    pub named : new.named ≡ image.next_volume
    pub unmarked : new.marks.items ≡ []
    pub metered : (m : Meter) → IsMetered seen old.meta m → IsMetered seen new.meta (with_fold (room_of seen old.meta) image m)
    pub calls : new.calls ≡ more_calls 6 old.calls

  -- That was to be done, and was cut short.
  pub record TriesAnew (calls : D → ℕ) (d : Decision) (stop : NotedStop) (old new : Noted C D) : Type 0 where
    pub image : MetaImage
    pub after : IsImageAfter old.store d image
    pub counted : new.calls ≡ more_calls 6 old.calls
    pub short : IsCutShort seen calls stop old.meta new.meta (with_fold (room_of seen old.meta) image)

  -- Where there is no action it stays.
  abbrev pub AnewOr : Bool → Decision → Noted C D → Noted C D → Type 0
  AnewOr true d old new = IsAnew d old new
  AnewOr false d old new = (new.meta ≡ old.meta) × (new.named ≡ old.named) × (new.marks.items ≡ old.marks.items) × (new.calls ≡ old.calls)

  -- A crash meanwhile leaves what stood, or such an image.
  abbrev pub LeavesAnew : Decision → Noted C D → List ℕ → Type 0
  LeavesAnew d old c = (recovered c ≡ found seen old.meta) ⊎ ((image : MetaImage) × (recovered c ≡ Image image) × IsImageAfter old.store d image)

  -- Between two entries, whatever the script goes on to ask.
  pub record IsHeldAt (n : Noted C D) (history : HistoryState) (w : Whole) (least : List Row) : Type 0 where
    pub idle : n.under_way ≡ None
    pub told : IsTold (StandsFor n.store) history w
    pub point : Point
    pub run : HasRun n.store.control.grain history.entries w least point
    pub keeps : Keeps seen may_leave n.store.control.grain n.meta n w None point
    pub counts : Counts seen may_leave n history.entries w

  -- It is noted at something, with room for an entry; and what holds wherever it is.
  abbrev pub IsNotedWithRoom : Noted C D → Type 0
  IsNotedWithRoom n = (w : Whole) × (least : List Row) × (history : HistoryState) × IsNotedAt seen may_leave n history w least × (length history.entries < 262144)

  abbrev pub WhereverNoted : Noted C D → (HistoryState → Whole → List Row → Type 0) → Type 0
  WhereverNoted n Holds = (history : HistoryState) (w : Whole) (least : List Row) → length history.entries < 262144 → IsNotedAt seen may_leave n history w least → Holds history w least

  -- A command's entry leads on, once it is logged, to what the noted store then stands for.
  abbrev pub LeadsOn : Noted C D → HistoryState → Entry → Noted C D → Type 0
  LeadsOn old before entry new =
      (w : Whole) (least : List Row) → IsNotedAt seen may_leave old before w least →
      (next : Whole) × (least_next : List Row) × Step old.store.control.grain w (record entry { number = w.entries }) next
      × IsHeldAt new (record before { entries = before.entries ++ (record entry { number = w.entries }) ∷ [] }) next least_next
