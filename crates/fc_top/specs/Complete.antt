-- Completeness of a call of the program: where no call of its source or sink failed and there is room enough, it is done; and
-- where no disk failed, each read of a volume that is online gives the bytes that the volume holds, and each write is done. For
-- want of memory alone it isn't so.
use Rattle.std.specs.Prelude.{◌≡◌, ◌≢◌, ◌⊎◌, ℕ, All, List, [], ◌∷◌}
use Rattle.fc_base.specs.Count.{HasRisen}
use Rattle.fc_base.specs.declared.request.Reply.TheVariants.{Done, NoMemory}
use Rattle.fc_base.specs.declared.request.Request.{Request}
use Rattle.fc_base.specs.declared.request.Request.TheVariants.{Read, Write}
use Rattle.fc_base.specs.declared.size.GrainSize.{GrainSize}
use Rattle.fc_call.specs.Call.{Call}
use Rattle.fc_call.specs.declared.status.Status.{Status}
use Rattle.fc_call.specs.declared.status.Status.TheVariants as status
use Rattle.fc_complete.specs.Law.{AreServed, IsOnline, GivesBytes}
use Rattle.fc_entry.specs.declared.entry.Entry.{Entry}
use Rattle.fc_io.specs.Source.{SourceState}
use Rattle.fc_legal.specs.Legal.{IsNamed, IsNext}
use Rattle.fc_legal.specs.Whole.{Whole}
use Rattle.fc_mdisk.specs.Disk.{DiskState}
use Rattle.fc_mdisk.specs.Disks.{faults_of}
use Rattle.fc_owner.specs.FirstTold.{first_told}

-- No call failed.
abbrev pub NoneFailed : ℕ → ℕ → Type 0
NoneFailed before after = HasRisen before after → ⊥

-- No disk failed, by the counts of the disks; for want of memory, where the disks may be gone, by what the lanes told of them.
abbrev pub NoDiskFailed : Status → List DiskState → Whole → Type 0
NoDiskFailed status.NoMemory disks last = All (λ faults. faults ≡ 0) last.faults
NoDiskFailed _ disks last = faults_of disks ≡ 0

-- An access of a volume that is online: a read gives its bytes, and a write is done; or memory was wanted.
abbrev pub AnswersOnline : GrainSize → Whole → Request → Entry → Type 0
AnswersOnline grain w (Read part) entry = IsOnline w part.volume → GivesBytes grain w part entry ⊎ (entry.reply ≡ NoMemory)
AnswersOnline grain w (Write part) entry = IsOnline w part.volume → (entry.reply ≡ Done) ⊎ (entry.reply ≡ NoMemory)
AnswersOnline grain w request entry = Unit {0}

-- A legal history in which each access is answered so.
abbrev pub IsAnswered : GrainSize → Whole → List Entry → Whole → Type 0
IsAnswered grain w [] last = IsNamed w last
IsAnswered grain w (entry ∷ entries) last =
    (next : Whole) × (one : IsNext grain w entry next) × AnswersOnline grain one.before entry.request entry × IsAnswered grain next entries last

-- No entry answers a disk fault or a medium error, none tore a grain and none is lost; and accesses are answered.
pub record IsWhole (grain : GrainSize) (w : Whole) (entries : List Entry) (last : Whole) : Type 0 where
  pub served : AreServed entries last
  pub answered : IsAnswered grain w entries last

-- Of a call that reads this source, and after whose last entry this is told.
pub record Completes (grain : GrainSize) (source source' : SourceState) (call : Call) (last : Whole) : Type 0 where
  -- where it could be read and written, wasn't too long, and ends no block short, it is done, or memory was wanted
  pub done : NoneFailed source.faults source'.faults → NoneFailed call.sink.faults call.sink'.faults →
      call.status ≢ status.LogFull → call.status ≢ status.TooLong → call.status ≢ status.Unended →
      (call.status ≡ status.Done) ⊎ (call.status ≡ status.NoMemory)
  -- where no disk failed, all is served, whatever the status
  pub served : NoDiskFailed call.status call.disks' last → IsWhole grain (first_told call.disks) call.history.entries last
