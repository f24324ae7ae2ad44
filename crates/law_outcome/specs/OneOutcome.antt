-- One outcome of a call of the program: two calls that ask for the same, over disks of the same kinds in each lane and over the
-- same bytes, in which no block ends, that end in one way, and in which no entry answers a disk fault or missing memory, tell the
-- same and write the same. Of the actors of a block each may be next, so a block has many outcomes. Checks have no entries, and
-- write the line of the one verdict that is right.
use Rattle.std.specs.Prelude.{◌≡◌, ℕ, Bool, true, false, List, [], ◌++◌, Some}
use Rattle.std.specs.Bool.{OnFalse}
use Rattle.fc_args.specs.declared.asked.Asked.{Asked}
use Rattle.fc_args.specs.declared.asked.Asked.TheVariants.{Check, Drill, Run, Stop}
use Rattle.fc_base.specs.declared.limits.TheConstants.{LANES}
use Rattle.fc_base.specs.declared.size.GrainSize.{GrainSize}
use Rattle.fc_blocks.specs.Segments.{cut}
use Rattle.fc_call.specs.Call.{Call}
use Rattle.fc_call.specs.declared.status.Status.{Status}
use Rattle.fc_call.specs.declared.status.Status.TheVariants.{Done, Unended, LogFull, TooLong, Refuted}
use Rattle.fc_determined.specs.Smooth.{AreSmooth, told_by}
use Rattle.fc_entry.specs.Lines.{all_lines}
use Rattle.fc_io.specs.Source.{SourceState}
use Rattle.fc_legal.specs.WithoutBlocks.{AreLines}
use Rattle.fc_mdisk.specs.Disk.{DiskState}
use Rattle.fc_run.specs.Input.{IsAtEnd}
use Rattle.fc_run.specs.Summary.{form_text}
use Rattle.fc_run.specs.declared.form.Form.{Form}
use Rattle.fc_run.specs.declared.form.Form.TheVariants.{Text, Trace, Summary}
use Rattle.fc_lanes.specs.Dealing.{pools_dealt}
use Rattle.fc_top.specs.PlainEnds.{PlainEnds}
use Rattle.fc_top.specs.Theorem.{Theorem}
use Rattle.fc_top.specs.Traced.{run_form}

-- In each lane stand as many disks of each kind.
abbrev pub AreAlikeDealt : List DiskState → List DiskState → Type 0
AreAlikeDealt disks other = pools_dealt LANES other ≡ pools_dealt LANES disks

-- The bytes alone decide when a call ends so.
abbrev pub IsByBytes : Status → Type 0
IsByBytes Done = Unit {0}
IsByBytes Unended = Unit {0}
IsByBytes LogFull = Unit {0}
IsByBytes TooLong = Unit {0}
IsByBytes Refuted = Unit {0}
IsByBytes _ = ⊥

-- No block ends in these bytes: all segments of their lines are single lines.
abbrev pub HaveNoBlock : List ℕ → Type 0
HaveNoBlock bytes = AreLines (cut (all_lines bytes)).segments

-- Two calls over disks dealt alike that end in one such way, and in neither of which an entry answers a disk fault or missing memory.
pub record WentAlike (call other : Call) : Type 0 where
  pub dealt : AreAlikeDealt call.disks other.disks
  pub status : other.status ≡ call.status
  pub by_bytes : IsByBytes call.status
  pub smooth : AreSmooth call.history.entries
  pub smooth_other : AreSmooth other.history.entries

-- A trace tells the faults that disks counted.
abbrev pub tells_faults : Form → Bool
tells_faults (Trace header) = true
tells_faults form = false

-- Entries tell the same, but for the faults that disks counted; but for a trace their text in this form is the same, and where the
-- two sinks held the same before, they do after.
pub record HaveOneOutcome (form : Form) (call other : Call) : Type 0 where
  pub entries : told_by other.history.entries ≡ told_by call.history.entries
  pub text : OnFalse (tells_faults form) (form_text form other.history ≡ form_text form call.history)
  pub written : OnFalse (tells_faults form) (other.sink.held ≡ call.sink.held → other.sink'.held ≡ call.sink'.held)

-- The bytes that were taken are the first of these; all of them, where the source is at its end.
pub record TookOf (bytes taken : List ℕ) (source' : SourceState) : Type 0 where
  pub rest : List ℕ
  pub split : bytes ≡ taken ++ rest
  pub end : IsAtEnd source' → rest ≡ []

-- A session that took of these bytes.
pub record ReadsOf (form : Form) (grain : GrainSize) (bytes : List ℕ) (call : Call) : Type 0 where
  pub source : SourceState
  pub source' : SourceState
  pub ends : PlainEnds form grain source source' call
  pub took : TookOf bytes ends.session.bytes source'

-- In which form it is written.
abbrev pub form_of : Asked → List DiskState → Form
form_of (Run options) disks = run_form options disks
form_of (Drill number) disks = Summary
form_of _ disks = Text

-- The source of a run or a check has these bytes. A drill doesn't touch its source.
abbrev pub HasBytes : Asked → List ℕ → SourceState → Type 0
HasBytes (Drill number) bytes source = Unit {0}
HasBytes _ bytes source = source.left ≡ Some bytes

-- No block ends in the bytes of a run. The generated session of a drill has none in any case. A check makes no entry, and of its bytes
-- one verdict is right, whatever session stands behind their trace. Of a disk of metadata that stops nothing is said.
abbrev pub AsksNoBlock : Asked → List ℕ → Type 0
AsksNoBlock (Drill number) bytes = Unit {0}
AsksNoBlock Check bytes = Unit {0}
AsksNoBlock (Stop number) bytes = ⊥
AsksNoBlock _ bytes = HaveNoBlock bytes

pub record OutcomeLaw : Type 0 where
  -- two sessions that took of the same bytes
  pub sessions : (form : Form) (grain : GrainSize) (bytes : List ℕ) (call other : Call) → HaveNoBlock bytes → WentAlike call other →
      ReadsOf form grain bytes call → ReadsOf form grain bytes other → HaveOneOutcome form call other
  -- two calls of the program whose sources have the same bytes
  pub calls : (asked : Asked) (bytes : List ℕ) (call other : Call) → AsksNoBlock asked bytes → WentAlike call other →
      HasBytes asked bytes call.source → HasBytes asked bytes other.source →
      Theorem (Some asked) call → Theorem (Some asked) other → HaveOneOutcome (form_of asked call.disks) call other
