-- How a call ends that runs a session: the points of the theorem by name.
use Rattle.std.specs.Prelude.{◌≡◌, ◌⊎◌}
use Rattle.fc_base.specs.declared.size.GrainSize.{GrainSize}
use Rattle.fc_call.specs.Call.{Call, empty, session_of, status_of}
use Rattle.fc_call.specs.declared.status.Status.TheVariants.{NoMemory}
use Rattle.fc_io.specs.Source.{SourceState}
use Rattle.fc_legal.specs.Added.{IsOf}
use Rattle.fc_legal.specs.Legal.{IsLegal}
use Rattle.fc_legal.specs.Whole.{Whole}
use Rattle.fc_run.specs.Headline.{SessionEnds}
use Rattle.fc_run.specs.declared.ended.Ended.{Ended}
use Rattle.fc_run.specs.declared.form.Form.{Form}
use Rattle.fc_top.specs.Complete.{Completes}
use Rattle.fc_owner.specs.FirstTold.{first_told}
use Rattle.fc_top.specs.DisksBack.{DisksAfter}
use Rattle.fc_owner.specs.PlainRuns.{plain_runs}

-- The session is read from this source, with grains of this size, and its history is written in this form.
pub record PlainEnds (form : Form) (grain : GrainSize) (source source' : SourceState) (call : Call) : Type 0 where
  -- what is told after the last entry
  pub last : Whole
  -- how the session ended
  pub ended : Ended
  pub status : call.status ≡ status_of ended
  -- the history is legal
  pub legal : IsLegal grain (first_told call.disks) call.history.entries last
  -- its actors and its number of entries are those that are told; or memory was wanted before `main` had its name
  pub named : IsOf last call.history ⊎ ((call.status ≡ NoMemory) × (call.history ≡ empty))
  -- by the way that the session ended: which bytes were taken, which lines the history answers, and what was written
  pub session : SessionEnds (session_of ended form source source' call) (plain_runs grain (first_told call.disks) last)
  -- what becomes of the disks
  pub disks : DisksAfter call.status call.disks call.disks' call.history.entries last
  -- where nothing failed it is done, and all is served
  pub complete : Completes grain source source' call last
