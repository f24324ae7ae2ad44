-- How a call ends, by what its words ask for.
use Rattle.std.specs.Prelude.{◌≡◌, ◌≢◌, ◌⊎◌, ℕ, [], Option, Some, None}
use Rattle.fc_args.specs.declared.asked.Asked.{Asked}
use Rattle.fc_args.specs.declared.asked.Asked.TheVariants.{Run, Drill, Check, Stop}
use Rattle.fc_args.specs.declared.asked.RunOptions.{RunOptions}
use Rattle.fc_base.specs.declared.size.GrainSize.TheVariants.{K64}
use Rattle.fc_call.specs.Call.{Call, empty}
use Rattle.fc_call.specs.declared.status.Status.TheVariants as status
use Rattle.fc_gen.specs.Session.{session_text}
use Rattle.fc_io.specs.Source.{SourceState}
use Rattle.fc_run.specs.declared.form.Form.TheVariants.{Summary}
use Rattle.fc_stopped.specs.Calls.{half_of_disk}
use Rattle.fc_stopped.specs.Stopped.{StopEnds}
use Rattle.fc_top.specs.PlainEnds.{PlainEnds}
use Rattle.fc_top.specs.Traced.{run_form}
use Rattle.fc_verdict.specs.CheckEnds.{CheckEnds}

-- The words aren't in the grammar: the status says so, or memory was wanted before it was known. Nothing is read, answered or
-- written, and the disks are as they were.
pub record AsksNothing (call : Call) : Type 0 where
  pub status : (call.status ≡ status.Usage) ⊎ (call.status ≡ status.NoMemory)
  pub source : call.source' ≡ call.source
  pub sink : call.sink' ≡ call.sink
  pub disks : call.disks' ≡ call.disks
  pub history : call.history ≡ empty

-- A run: a session with grains of the size that is asked for, and its history in text or as a trace. No words ask for a write
-- cache yet, since it isn't built.
pub record RunEnds (options : RunOptions) (call : Call) : Type 0 where
  pub cacheless : options.cache ≡ None
  pub ends : PlainEnds (run_form options call.disks) options.grain call.source call.source' call

-- The source of a drill: the generated session of its number, in memory, where no call fails.
abbrev pub drill_source : ℕ → SourceState
drill_source number = record { left = Some (session_text number); failing = Some []; faults = 0 }

-- A drill: the generated session is read as any other, with grains of 64 KiB, and the summary of its history written. The source of
-- the call isn't touched.
pub record DrillEnds (number : ℕ) (call : Call) : Type 0 where
  pub source : call.source' ≡ call.source
  -- what is left of the generated session; reading it never fails, it isn't too long, and it doesn't end inside a block
  pub left : SourceState
  pub no_fault : left.faults ≡ 0
  pub readable : call.status ≢ status.ReadFault
  pub fits : call.status ≢ status.TooLong
  pub closed : call.status ≢ status.Unended
  pub ends : PlainEnds Summary K64 (drill_source number) left call

-- By what is asked for; of a run whose disk of metadata stops at a call, fc_stopped says how it ends.
abbrev pub Ends : Option Asked → Call → Type 0
Ends None call = AsksNothing call
Ends (Some (Run options)) call = RunEnds options call
Ends (Some (Drill number)) call = DrillEnds number call
Ends (Some Check) call = CheckEnds call
Ends (Some (Stop number)) call = StopEnds number half_of_disk call
