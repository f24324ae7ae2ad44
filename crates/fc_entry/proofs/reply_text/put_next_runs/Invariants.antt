-- The runs before this one were put.
use Rattle.std.proofs.Common.{◌++◌, take, false, codes}
use Rattle.std.specs.List.{flat_map}
use Rattle.fc_entry.specs.Text.{run_text}
use Rattle.fc_entry.specs.Written.{Written}
use Rattle.fc_entry.proofs.reply_text.put_next_runs.Given as goal

abbrev pub invariant-loop-run : goal.invariant-loop-run
invariant-loop-run g l =
    Written (g.K.Sink.meaning l.fn.sink) (flat_map (λ run. codes "," ++ run_text run) (take l.run-index l.runs)) false
    (g.K.Sink.meaning l.sink)
