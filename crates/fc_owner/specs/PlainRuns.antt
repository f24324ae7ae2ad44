-- What is said of the lines of a session by its history: that it is a run of them, cut into single lines and blocks.
use Rattle.std.specs.Prelude.{is_some}
use Rattle.fc_base.specs.declared.size.GrainSize.{GrainSize}
use Rattle.fc_blocks.specs.Segments.{cut}
use Rattle.fc_legal.specs.Run.{IsRun, IsPartialRun, WantsMore}
use Rattle.fc_legal.specs.Whole.{Whole}
use Rattle.fc_run.specs.Runs.{Runs}
use Rattle.fc_owner.specs.Reading.{reading}

-- From what is told before its first entry to what is told after its last. A block that is open after the lines is none of their
-- segments: nothing of it is answered.
abbrev pub plain_runs : GrainSize → Whole → Whole → Runs
plain_runs grain w last = record {
  Whole = λ lines history. IsRun grain reading w (cut lines).segments history.entries last;
  Full = λ lines history. WantsMore grain reading w (cut lines).segments history.entries last;
  Front = λ lines history. IsPartialRun grain reading w (cut lines).segments history.entries last;
  is_open = λ lines. is_some (cut lines).open_block;
}
