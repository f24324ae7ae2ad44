-- The exit status of the viewer for each way in which a view may end.
use Rattle.std.specs.Prelude.{ℕ, Result, Ok, Err}
use Rattle.fc_drawing.specs.declared.drawing.Seen.{Seen}
use Rattle.fc_drawing.specs.declared.drawing.Seen.TheVariants.{Right, Wrong, Malformed}
use Rattle.fc_view.specs.declared.stop.ViewStop.{ViewStop}
use Rattle.fc_view.specs.declared.stop.ViewStop.TheVariants.{ReadFault, WriteFault, NoMemory, LogFull, TooLong}

abbrev pub code_of : Result Seen ViewStop → ℕ
code_of (Ok (Right count)) = 0
code_of (Ok (Wrong number)) = 9
code_of (Ok (Malformed place)) = 9
code_of (Err ReadFault) = 3
code_of (Err WriteFault) = 4
code_of (Err NoMemory) = 5
code_of (Err LogFull) = 6
code_of (Err TooLong) = 7
