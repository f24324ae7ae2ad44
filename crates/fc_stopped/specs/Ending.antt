-- The end of a call: what its parts leave.
use Rattle.std.specs.Prelude.{◌≡◌, ◌⊎◌, ℕ, true, false, List, [], ◌++◌, map, Result, Ok, Err}
use Rattle.std.specs.List.{flat_map}
use Rattle.fc_base.specs.Count.{HasRisen}
use Rattle.fc_base.specs.declared.size.GrainSize.TheVariants.{K64}
use Rattle.fc_call.specs.declared.status.Status.{Status}
use Rattle.fc_call.specs.declared.status.Status.TheVariants as status
use Rattle.fc_format.specs.Halves.{Found, Image, NoImage, recovered}
use Rattle.fc_image.specs.declared.image.MetaImage.{MetaImage}
use Rattle.fc_io.specs.Sink.{AddsFront, SinkState, held_with}
use Rattle.fc_kept.specs.Disks.{NamedDisk}
use Rattle.fc_kept.specs.Sound.{IsSoundImage}
use Rattle.fc_marks.specs.declared.error.NotedStop.{NotedStop}
use Rattle.fc_marks.specs.declared.error.NotedStop.TheVariants.{LogFull, MetaFailed, MetaFull, NoMemory}
use Rattle.fc_mdisk.specs.Disk.{DiskState}
use Rattle.fc_meta.specs.States.{room_of}
use Rattle.fc_metadisk.specs.Stop.{StopLeaves, StopState}
use Rattle.fc_noted.specs.Noted.{IsNotedAt, NoHistory}
use Rattle.fc_noted.specs.declared.noted.Noted.{Noted}
use Rattle.fc_owner.specs.FirstTold.{first_told}
use Rattle.fc_owner.specs.StoreRuns.{Start}
use Rattle.fc_recovery_text.specs.Recovering.{IsFirstFront, IsFirstText}
use Rattle.fc_recovery_text.specs.declared.state.Unwritten.{Unwritten}
use Rattle.fc_recovery_text.specs.declared.state.Unwritten.TheVariants.{Failed, NoMemory as WantsMemory}
use Rattle.fc_run.specs.Output.{IsWritten}
use Rattle.fc_stopped.specs.Countdown.{calls_by_stop, faults_by_stop}
use Rattle.fc_stopped.specs.Lines.{HasCounted, HasLanes, StopStart}
use Rattle.fc_stopped.specs.Text.{far_text}
use Rattle.fc_stopped.specs.declared.far.Far.TheVariants.{ToCall, ToFull}

-- Grains of 64 kilobytes, over these disks.
abbrev pub over_disks : List DiskState → Start
over_disks disks = record { grain = K64; disks = disks }

-- The disks of a lane; and those of all lanes, lane by lane.
abbrev pub own_disks : List NamedDisk → List DiskState
own_disks disks = map (λ (d : NamedDisk). d.disk) disks

abbrev pub all_disks : List (List NamedDisk) → List DiskState
all_disks lanes = flat_map own_disks lanes

-- What a session goes by over these disks, whose disk of metadata stops at a call and has halves of so many bytes.
abbrev pub goes_by : ℕ → ℕ → List DiskState → StopStart
goes_by number half disks = record { start = over_disks disks; number = number; half = half }

-- A noted store before the first line, over these disks and a disk of metadata that stops at this call.
pub record IsOpened {C : Type 0} (n : Noted C StopState) (old : List DiskState) (number : ℕ) : Type 0 where
  pub live : n.live ≡ true
  pub grain : n.store.control.grain ≡ K64
  pub lanes : HasLanes (over_disks old) n.store.lanes
  pub at : IsNotedAt (λ (d : StopState). d.bytes) StopLeaves n NoHistory (first_told old) []
  pub counted : HasCounted (λ (d : StopState). d.bytes) StopLeaves faults_by_stop calls_by_stop n (goes_by number (room_of (λ (d : StopState). d.bytes) n.meta) old)

-- Why the first image isn't on the disk, or isn't known to be: what stands there is none, or one without volumes.
pub record IsUnopened (bytes : List ℕ) (stop : NotedStop) : Type 0 where
  pub not_full : (stop ≡ LogFull) → ⊥
  pub found : (recovered bytes ≡ NoImage) ⊎ ((image : MetaImage) × (recovered bytes ≡ Image image) × IsSoundImage image × (image.volumes ≡ []))

-- ---- what is written

-- The call ends as it was to, with the text written; or that failed.
abbrev pub TextEnds : List ℕ → Status → Status → SinkState → SinkState → Type 0
TextEnds text asked result before after =
    ((result ≡ asked) × IsWritten before text false after) ⊎ ((result ≡ status.WriteFault) × IsWritten before text true after)

-- What was written is sent on; or the call ends by why it isn't.
abbrev pub StatusWritten : Result (Unit {0}) Unwritten → Status → SinkState → SinkState → Type 0
StatusWritten (Ok done) is before after =
    (after.held ≡ before.held)
    × (((is ≡ status.Done) × (after.sent ≡ after.held)) ⊎ ((is ≡ status.WriteFault) × HasRisen before.faults after.faults))
StatusWritten (Err Failed) is before after = (is ≡ status.WriteFault) × (after ≡ before)
StatusWritten (Err WantsMemory) is before after = (is ≡ status.NoMemory) × (after ≡ before)

-- A text that is known, and one behind it of which this holds; or a front of it and of one of which the second holds.
abbrev pub StatePut : List ℕ → (IsText IsFront : List ℕ → Type 0) → Status → SinkState → SinkState → Type 0
StatePut known IsText IsFront status.Done before after =
    (text : List ℕ) × IsText text × (after.held ≡ held_with before.held (known ++ text)) × (after.sent ≡ after.held)
StatePut known IsText IsFront status.WriteFault before after =
    (text : List ℕ) × IsFront text × AddsFront before.held (known ++ text) after.held × HasRisen before.faults after.faults
StatePut known IsText IsFront status.NoMemory before after =
    (text : List ℕ) × IsFront text × AddsFront before.held (known ++ text) after.held
StatePut known IsText IsFront other before after = ⊥

-- Of a call without entries.
abbrev pub EndsUnopened : ℕ → Found → NotedStop → Status → SinkState → SinkState → Type 0
EndsUnopened call found MetaFailed is before after = StatePut (far_text (ToCall call)) (IsFirstText K64 found) (IsFirstFront K64 found) is before after
EndsUnopened call found MetaFull is before after = StatePut (far_text ToFull) (IsFirstText K64 found) (IsFirstFront K64 found) is before after
EndsUnopened call found NoMemory is before after = (is ≡ status.NoMemory) × (after ≡ before)
EndsUnopened call found LogFull is before after = ⊥
