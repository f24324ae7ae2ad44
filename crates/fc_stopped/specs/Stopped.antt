-- How a call ends that runs a session until a call of its disk of metadata.
use Rattle.std.specs.Prelude.{◌≡◌, ◌⊎◌, ℕ, ◌+◌, ◌-◌, ◌^◌, ◌<◌, ◌≤◌, List, [], ◌∷◌, ◌++◌, length, map, sum, Option}
use Rattle.fc_agenda.specs.Goes.{Goes}
use Rattle.fc_base.specs.Count.{HasRisen}
use Rattle.fc_base.specs.declared.request.Request.{Request}
use Rattle.fc_base.specs.declared.size.GrainSize.TheVariants.{K64}
use Rattle.fc_blocks.specs.Segments.{single}
use Rattle.fc_call.specs.Call.{Call, empty}
use Rattle.fc_call.specs.declared.status.Status.{Status}
use Rattle.fc_call.specs.declared.status.Status.TheVariants as status
use Rattle.fc_changed.specs.Row.{Row}
use Rattle.fc_entry.specs.Lines.{all_lines, ended_lines}
use Rattle.fc_entry.specs.Text.{history_text}
use Rattle.fc_grains.specs.Grains.{pool_of}
use Rattle.fc_image.specs.declared.image.MetaImage.{MetaImage}
use Rattle.fc_io.specs.Sink.{AddsFront, held_with}
use Rattle.fc_kept.specs.Disks.{NamedDisk}
use Rattle.fc_kept.specs.Images.{kept_in}
use Rattle.fc_legal.specs.Added.{IsOf}
use Rattle.fc_legal.specs.Agenda.{Agenda, Session, session_rules}
use Rattle.fc_legal.specs.Legal.{IsLegal}
use Rattle.fc_legal.specs.Run.{IsPartialRun, IsRun, WantsMore}
use Rattle.fc_legal.specs.Whole.{Whole}
use Rattle.fc_mdisk.specs.Disk.{DiskState}
use Rattle.fc_mdisk.specs.Disks.{calls_of, faults_of}
use Rattle.fc_noted.specs.Stopping.{IsAskedSoon}
use Rattle.fc_owner.specs.FirstTold.{first_told}
use Rattle.fc_run.specs.Input.{Gave, IsAtEnd, OfFirstTaken, input_limit}
use Rattle.fc_stopped.specs.Calls.{CallsBy}
use Rattle.fc_stopped.specs.Ending.{all_disks}
use Rattle.fc_stopped.specs.Reading.{stop_reading}
use Rattle.fc_recovery_text.specs.Recovering.{IsImageFront, IsImageText}
use Rattle.fc_recovery_text.specs.Text.{no_image}
use Rattle.fc_stopped.specs.Text.{far_text}
use Rattle.fc_stopped.specs.declared.far.Far.{Far}
use Rattle.fc_stopped.specs.declared.far.Far.TheVariants.{ToEnd}
use Rattle.law_noted.specs.One.{IsSafe}

-- ---- the lines

abbrev pub AnswersAll : Call → Whole → List (List ℕ) → Type 0
AnswersAll call last lines = IsRun K64 stop_reading (first_told call.disks) (map single lines) call.history.entries last

abbrev pub AnswersSome : Call → Whole → List (List ℕ) → Type 0
AnswersSome call last lines = IsPartialRun K64 stop_reading (first_told call.disks) (map single lines) call.history.entries last

-- The first of these lines are answered, and this is left to be asked.
abbrev pub AnswersUpTo : Call → Whole → Agenda → List (List ℕ) → Type 0
AnswersUpTo call last left lines =
    Goes (session_rules K64 stop_reading) (Session (map single lines)) (first_told call.disks) call.history.entries left last

-- A session that came to its end was read and answered whole; else some first lines are answered, the last maybe in part.
abbrev pub LinesBy : Far → Call → Whole → Agenda → List ℕ → Type 0
LinesBy ToEnd call last left bytes = IsAtEnd call.source' × AnswersAll call last (all_lines bytes) × (left ≡ Session [])
LinesBy far call last left bytes = OfFirstTaken call.source' bytes (AnswersUpTo call last left)

-- ---- what is recovered

-- The disks counted more faults than are told, or their count stands still.
abbrev pub DisksFailedMore : Whole → List DiskState → Type 0
DisksFailedMore last disks = (sum last.faults < faults_of disks) ⊎ (2 ^ 64 - 1 ≤ faults_of disks)

-- No image, where nothing is answered; or what an image and the disks say: that is safe, with what was asked and isn't answered, if
-- anything was. The disks then come back as they are behind the reads.
pub data IsState (call : Call) (last : Whole) (left : Agenda) : List ℕ → Type 0 where
  none : call.history.entries ≡ [] → IsState call last left no_image
  first : (image : MetaImage) (disks : List (List NamedDisk)) (text : List ℕ) (behind : List (List NamedDisk))
      (least : List Row) (asked : Option Request) → IsAskedSoon K64 last left asked →
      IsSafe K64 disks (kept_in image) last least asked (DisksFailedMore last (all_disks disks)) →
      IsImageText K64 image disks text behind → call.disks' ≡ all_disks behind → IsState call last left text

-- What was put of such a text, where the sink failed or memory was wanted: nothing; that there is no image; or a first part of what an
-- image and the disks say.
pub data IsLeftFront (call : Call) (last : Whole) (left : Agenda) : List ℕ → Type 0 where
  nothing : IsLeftFront call last left []
  none : call.history.entries ≡ [] → IsLeftFront call last left no_image
  first : (image : MetaImage) (disks : List (List NamedDisk)) (text : List ℕ) (behind : List (List NamedDisk))
      (least : List Row) (asked : Option Request) → IsAskedSoon K64 last left asked →
      IsSafe K64 disks (kept_in image) last least asked (DisksFailedMore last (all_disks disks)) →
      IsImageFront K64 image disks text behind → call.disks' ≡ all_disks behind → IsLeftFront call last left text

-- ---- what is written

-- The sink got this text and nothing else, and all that it holds was sent on.
abbrev pub GotAll : Call → List ℕ → Type 0
GotAll call text = (call.sink'.held ≡ held_with call.sink.held text) × (call.sink'.sent ≡ call.sink'.held)

-- What stands behind the text of a history that wasn't written whole: nothing; or how far the session came, and what was put of the state.
pub data StandsBehind (number half : ℕ) (call : Call) (last : Whole) (bytes : List ℕ) : List ℕ → Type 0 where
  nothing : StandsBehind number half call last bytes []
  state : (far : Far) (left : Agenda) (text : List ℕ) → LinesBy far call last left bytes →
      CallsBy number half far call.history.entries last left → IsLeftFront call last left text →
      StandsBehind number half call last bytes (far_text far ++ text)

-- The sink got a front of the history's text and that.
abbrev pub GotHistoryFront : ℕ → ℕ → Call → Whole → List ℕ → Type 0
GotHistoryFront number half call last bytes =
    (behind : List ℕ) × StandsBehind number half call last bytes behind
    × AddsFront call.sink.held (history_text call.history ++ behind) call.sink'.held

-- By the status: which lines are answered, and what was written.
abbrev pub EndsBy : ℕ → ℕ → Status → Call → Whole → List ℕ → Type 0
EndsBy number half status.Done call last bytes =
    (length bytes ≤ input_limit)
    × ((far : Far) × (left : Agenda) × (text : List ℕ) × LinesBy far call last left bytes × CallsBy number half far call.history.entries last left
    × IsState call last left text × GotAll call (history_text call.history ++ far_text far ++ text))
EndsBy number half status.ReadFault call last bytes =
    HasRisen call.source.faults call.source'.faults
    × (length bytes ≤ input_limit)
    × AnswersAll call last (ended_lines bytes)
    × GotAll call (history_text call.history)
EndsBy number half status.TooLong call last bytes =
    (kept : List ℕ) × (past : ℕ)
    × (bytes ≡ kept ++ past ∷ [])
    × (length kept ≡ input_limit)
    × AnswersAll call last (ended_lines kept)
    × GotAll call (history_text call.history)
EndsBy number half status.LogFull call last bytes =
    (length bytes ≤ input_limit)
    × OfFirstTaken call.source' bytes (λ lines. WantsMore K64 stop_reading (first_told call.disks) (map single lines) call.history.entries last)
    × (length call.history.entries ≡ 262144)
    × GotAll call (history_text call.history)
EndsBy number half status.WriteFault call last bytes =
    HasRisen call.sink.faults call.sink'.faults
    × (length bytes ≤ input_limit + 1)
    × OfFirstTaken call.source' bytes (AnswersSome call last)
    × GotHistoryFront number half call last bytes
EndsBy number half status.NoMemory call last bytes =
    (length bytes ≤ input_limit) × OfFirstTaken call.source' bytes (AnswersSome call last)
    × GotHistoryFront number half call last bytes
EndsBy number half other call last bytes = ⊥

-- The disks come back, as many of each kind, with at least the calls and faults that are told; for want of memory nothing is said of
-- them.
abbrev pub ComeBack : Status → (old new : List DiskState) → Whole → Type 0
ComeBack status.NoMemory old new last = Unit {0}
ComeBack other old new last = (pool_of new ≡ pool_of old) × (sum last.calls ≤ calls_of new) × (sum last.faults ≤ faults_of new)

-- The history is legal, and all this holds of one thing that is told at its end.
pub record StopEnds (number half : ℕ) (call : Call) : Type 0 where
  pub last : Whole
  pub legal : IsLegal K64 (first_told call.disks) call.history.entries last
  pub named : IsOf last call.history ⊎ ((call.status ≡ status.NoMemory) × (call.history ≡ empty))
  pub bytes : List ℕ
  pub gave : Gave call.source bytes call.source'
  pub ends : EndsBy number half call.status call last bytes
  pub disks : ComeBack call.status call.disks call.disks' last
