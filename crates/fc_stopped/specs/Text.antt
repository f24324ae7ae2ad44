-- What is written behind the text of the history.
use Rattle.std.specs.Prelude.{ℕ, List, ◌++◌, codes, decimal}
use Rattle.fc_stopped.specs.declared.far.Far.{Far}
use Rattle.fc_stopped.specs.declared.far.Far.TheVariants.{ToEnd, ToCall, ToFull}

-- How far the session came.
abbrev pub far_text : Far → List ℕ
far_text ToEnd = codes "not stopped\n"
far_text (ToCall call) = codes "stopped at " ++ decimal call ++ codes "\n"
far_text ToFull = codes "metadata full\n"
