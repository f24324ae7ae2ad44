-- The exit status of the program for each status of a call.
use Rattle.std.specs.Prelude.{ℕ}
use Rattle.fc_call.specs.declared.status.Status.{Status}
use Rattle.fc_call.specs.declared.status.Status.TheVariants.{Done, Usage, ReadFault, WriteFault, NoMemory, LogFull, TooLong, Unended, Refuted}

abbrev pub code_of : Status → ℕ
code_of Done = 0
code_of Usage = 2
code_of ReadFault = 3
code_of WriteFault = 4
code_of NoMemory = 5
code_of LogFull = 6
code_of TooLong = 7
code_of Unended = 8
code_of Refuted = 9
