-- What a stop leaves.
use Rattle.std.specs.Prelude.{◌≡◌, ◌⊎◌, ℕ, ◌<◌, ◌≤◌, true, List, [], ◌∷◌, length, Option, Some, None, Result, Ok, Err, slice_get, slice_index_or}
use Rattle.fc_agenda.specs.Goes.{Goes, GoesAsking}
use Rattle.fc_base.specs.Count.{HasRisen}
use Rattle.fc_base.specs.declared.request.Request.{Request}
use Rattle.fc_base.specs.declared.size.GrainSize.{GrainSize}
use Rattle.fc_blocks.specs.Segments.{single}
use Rattle.fc_changed.specs.Row.{Row}
use Rattle.fc_entry.specs.HistoryState.{HistoryState}
use Rattle.fc_entry.specs.declared.entry.Entry.{Entry}
use Rattle.fc_format.specs.Halves.{Image, NoImage, recovered}
use Rattle.fc_grains.specs.Volumes.{VolumeGrains, is_there, volume_of}
use Rattle.fc_image.specs.declared.image.MetaImage.{MetaImage}
use Rattle.fc_kept.specs.Disks.{NamedDisk}
use Rattle.fc_kept.specs.Images.{kept_in}
use Rattle.fc_kept.specs.Sound.{IsSoundImage}
use Rattle.fc_lane.specs.Lane.{LaneView}
use Rattle.fc_legal.specs.Added.{Adds, IsOf}
use Rattle.fc_legal.specs.Agenda.{Agenda, Asks, Reading, Session, session_rules}
use Rattle.fc_legal.specs.Whole.{Whole}
use Rattle.law_crash.specs.Points.{nothing_kept}
use Rattle.law_noted.specs.One.{IsSafe}
use Rattle.fc_script.specs.Passage.{GoesOn}
use Rattle.fc_script.specs.Script.{agenda_of}
use Rattle.fc_script.specs.declared.script.Script.{Script}
use Rattle.fc_stands.specs.Store.{StoreView}
use Rattle.fc_held.specs.Held.{HaveVolumes, HoldAllOf}
use Rattle.fc_marks.specs.declared.error.NotedStop.{NotedStop}
use Rattle.fc_marks.specs.Meter.{HasCause, Meter}
use Rattle.fc_marks.specs.declared.error.NotedStop.TheVariants.{LogFull, MetaFailed, MetaFull}
use Rattle.fc_meta.specs.Answers.{more_calls}
use Rattle.fc_meta.specs.States.{disk_of, room_of}
use Rattle.fc_noted.specs.Metered.{GoesInto, Metered}
use Rattle.fc_noted.specs.declared.noted.Noted.{Noted}

-- Nothing is asked, or the script asks this next.
abbrev pub IsAskedOf : GrainSize → Whole → Option Request → Script → Type 0
IsAskedOf grain w None script = Unit {0}
IsAskedOf grain w (Some request) script = Asks grain (agenda_of grain script) w (0, request)

-- More faults of a lane's disks were counted than are told.
abbrev pub MoreFailed : Whole → List LaneView → Type 0
MoreFailed w lanes = (i : ℕ) × (lane : LaneView) × (slice_get lanes i ≡ Some lane) × HasRisen (slice_index_or w.faults i 0) lane.grains.faults

-- The calls and faults that are told were counted, lane by lane.
pub record AreCounted (w : Whole) (lanes : List LaneView) : Type 0 where
  pub of_calls : length lanes ≡ length w.calls
  pub of_faults : length lanes ≡ length w.faults
  pub calls : (i : ℕ) (d : LaneView) → i < length lanes → slice_index_or w.calls i 0 ≤ (slice_index_or lanes i d).grains.calls
  pub faults : (i : ℕ) (d : LaneView) → i < length lanes → slice_index_or w.faults i 0 ≤ (slice_index_or lanes i d).grains.faults

-- Whatever the lanes give back, with an image it is what may be recovered of the history, with the entry of something that the
-- script goes on to ask, if it asks anything.
pub record MayBeRecovered (grain : GrainSize) (script : Script) (named : ℕ) (lanes : List LaneView) (w : Whole) (least : List Row) (image : MetaImage) : Type 0 where
  pub request : Option Request
  pub asking : Script
  pub reached : GoesOn grain w (agenda_of grain script) (agenda_of grain asking)
  pub asked : IsAskedOf grain w request asking
  pub sound : IsSoundImage image
  pub found : (back : List (List NamedDisk)) → HoldAllOf named lanes back →
      IsSafe grain back (kept_in image) w least request (MoreFailed w lanes)

-- No volume went or holds something else; some may have come.
abbrev pub HoldsTheSame : VolumeGrains → VolumeGrains → Type 0
HoldsTheSame old new = (new.kind ≡ old.kind) × (new.contents ≡ old.contents)

abbrev pub HoldStill : List LaneView → List LaneView → Type 0
HoldStill old new = (i v : ℕ) (d : LaneView) → is_there (slice_index_or old i d).grains.volumes v ≡ true →
    (is_there (slice_index_or new i d).grains.volumes v ≡ true) × HoldsTheSame (volume_of (slice_index_or old i d).grains.volumes v) (volume_of (slice_index_or new i d).grains.volumes v)

-- While metadata is written, the lanes hold what they held before the step; or what they do behind it, where that is still so.
abbrev pub MayHold : StoreView → StoreView → List LaneView → Type 0
MayHold old new lanes = (lanes ≡ old.lanes) ⊎ ((lanes ≡ new.lanes) × HoldStill old.lanes new.lanes)

-- A crash of the disk of metadata leaves an image, and with it what may be recovered.
abbrev pub LeavesRecoverable : {C D : Type 0} → Noted C D → Noted C D → Whole → List Row → List ℕ → Type 0
LeavesRecoverable old new w least c =
    (image : MetaImage) × (recovered c ≡ Image image)
    × ((lanes : List LaneView) → MayHold old.store new.store lanes →
    MayBeRecovered old.store.control.grain old.script old.named lanes w least image)

-- Behind an error: whatever a crash leaves now, with what the lanes hold now. The disks can be given back.
pub record HasStopped {C D : Type 0} (may_leave : D → List ℕ → Type 0) (old new : Noted C D) (w : Whole) (least : List Row) : Type 0 where
  pub volumes : HaveVolumes new.disks new.store
  pub counted : AreCounted w new.store.lanes
  pub leaves : (c : List ℕ) → may_leave new.meta.disk c →
      (image : MetaImage) × (recovered c ≡ Image image) × MayBeRecovered old.store.control.grain old.script new.named new.store.lanes w least image

-- This, where the disk of metadata failed or something passed its half.
abbrev pub OfMetadata : NotedStop → Type 0 → Type 0
OfMetadata MetaFailed P = P
OfMetadata MetaFull P = P
OfMetadata stop P = Unit {0}

-- The disk of metadata was called so often in all, some more often than before, and stopped for a cause that the meter has.
pub record StopsInto {C D : Type 0} (calls : D → ℕ) (stop : NotedStop) (old new : Noted C D) (into : Meter) : Type 0 where
  pub counted : new.calls ≡ more_calls into.calls 0
  pub made : ℕ
  pub called : calls (disk_of new.meta) ≡ more_calls made (calls (disk_of old.meta))
  pub all : ℕ
  pub in_all : more_calls made old.calls ≡ more_calls all 0
  pub cause : HasCause stop all into

-- ---- a line that isn't answered to its end

-- The script goes on to something that is asked next.
abbrev pub AsksSome : GrainSize → Script → Whole → Type 0
AsksSome grain script w =
    (asking : Script) × (request : Request) × GoesOn grain w (agenda_of grain script) (agenda_of grain asking) × Asks grain (agenda_of grain asking) w (0, request)

-- What is asked, if anything is, is next of an agenda, once what passes without an entry has passed.
abbrev pub IsAskedSoon : GrainSize → Whole → Agenda → Option Request → Type 0
IsAskedSoon grain w a None = Unit {0}
IsAskedSoon grain w a (Some request) = (asking : Agenda) × GoesOn grain w a asking × Asks grain asking w (0, request)

-- Whatever a crash leaves now is an image with which, whatever the lanes give back, what is told may be recovered, with something that
-- this agenda asks and that isn't answered, if anything was. The disks can be given back.
pub record Leaves {C D : Type 0} (grain : GrainSize) (may_leave : D → List ℕ → Type 0) (n : Noted C D) (w : Whole) (a : Agenda) : Type 0 where
  pub volumes : HaveVolumes n.disks n.store
  pub counted : AreCounted w n.store.lanes
  pub found : (c : List ℕ) → may_leave n.meta.disk c →
      (image : MetaImage) × (recovered c ≡ Image image) × IsSoundImage image
      × ((back : List (List NamedDisk)) → HoldAllOf n.named n.store.lanes back →
      (least : List Row) × (request : Option Request) × IsAskedSoon grain w a request
      × IsSafe grain back (kept_in image) w least request (MoreFailed w n.store.lanes))

-- The entries were paid for before metadata's disk failed: it had been called so often without a fault.
pub record Paid {C D : Type 0} (seen : D → List ℕ) (fault_count calls : D → ℕ) (grain : GrainSize) (old new : Noted C D) (next : Whole) (entries : List Entry) (meter : Meter) : Type 0 where
  pub metered : Metered grain (room_of seen new.meta) entries next meter
  pub fits : meter.full ≡ None
  pub unfailed : ℕ
  pub disk : D
  pub called : calls disk ≡ more_calls unfailed (calls (disk_of old.meta))
  pub quiet : fault_count disk ≡ fault_count (disk_of old.meta)
  pub before : more_calls meter.calls 0 ≤ more_calls unfailed old.calls

-- What is asked next goes so far into the calls of metadata's disk.
pub record LeftAt {C D : Type 0} (seen : D → List ℕ) (calls : D → ℕ) (grain : GrainSize) (stop : NotedStop) (old new : Noted C D) (next : Whole) (left : Agenda) (meter : Meter) : Type 0 where
  pub request : Request
  pub asked : IsAskedSoon grain next left (Some request)
  pub into : Meter
  pub goes : GoesInto grain (room_of seen new.meta) next meter request into
  pub stops : StopsInto calls stop old new into

-- The first entries of an agenda were logged, for the history's limit all that there is room for; and with them it is left so.
module _ {C D : Type 0} (seen : D → List ℕ) (may_leave : D → List ℕ → Type 0) (fault_count calls : D → ℕ) where
  abbrev pub Halts : GrainSize → Reading → NotedStop → Agenda → Noted C D → Noted C D → Whole → HistoryState → HistoryState → Type 0
  Halts grain read LogFull a old new w before after =
      (length after.entries ≡ 262144)
      × ((next : Whole) × IsOf next after × ((left : Agenda) × Leaves grain may_leave new next left)
      × Adds before after (λ more. GoesAsking (session_rules grain read) a w more next))
  Halts grain read stop a old new w before after =
      (next : Whole) × (left : Agenda) × IsOf next after × Leaves grain may_leave new next left
      × ((meter : Meter) × Paid seen fault_count calls grain old new next after.entries meter × OfMetadata stop (LeftAt seen calls grain stop old new next left meter))
      × Adds before after (λ more. Goes (session_rules grain read) a w more left next)

  -- The same of a line.
  abbrev pub LineHalts : Reading → NotedStop → Noted C D → Noted C D → List ℕ → Whole → HistoryState → HistoryState → Type 0
  LineHalts read stop old new bytes w before after = Halts old.store.control.grain read stop (Session (single bytes ∷ [])) old new w before after

-- ---- before the first line

-- The disk of metadata behind `open`, and behind `over`.
abbrev pub opened_meta : {C D : Type 0} → Result (Noted C D) (D × NotedStop) → D
opened_meta (Ok n) = n.meta.disk
opened_meta (Err e) = e.0

abbrev pub over_meta : {C D S : Type 0} → Result (Noted C D) (S × D × NotedStop) → D
over_meta (Ok n) = n.meta.disk
over_meta (Err e) = e.1

-- Before the first image stands, a crash leaves it or none; and it says nothing.
abbrev pub LeavesFirst : List ℕ → Type 0
LeavesFirst c = (recovered c ≡ NoImage) ⊎ ((image : MetaImage) × (recovered c ≡ Image image) × IsSoundImage image × (kept_in image ≡ nothing_kept))
