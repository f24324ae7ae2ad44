-- How a line is read where metadata stands on a disk that stops: by the grammar, where `together`, `actor` and `end` name no line.
use Rattle.std.specs.Prelude.{ℕ, List, Result, Ok, Err}
use Rattle.fc_base.specs.declared.command.Line.{Line}
use Rattle.fc_base.specs.declared.command.Line.TheVariants.{Actor, End, Together}
use Rattle.fc_base.specs.declared.command.Scope.TheVariants.{Free}
use Rattle.fc_base.specs.declared.fault.WordFault.{WordFault}
use Rattle.fc_base.specs.declared.fault.WordFault.TheVariants.{NotInBlock, UnknownCommand}
use Rattle.fc_legal.specs.Agenda.{Reading}
use Rattle.fc_words.specs.Lines.{line_of}

-- What is wrong in its words.
abbrev pub own_fault : WordFault → WordFault
own_fault NotInBlock = UnknownCommand
own_fault fault = fault

abbrev pub without_blocks : Result Line WordFault → Result Line WordFault
without_blocks (Ok Together) = Err UnknownCommand
without_blocks (Ok (Actor name role)) = Err UnknownCommand
without_blocks (Ok End) = Err UnknownCommand
without_blocks (Err fault) = Err (own_fault fault)
without_blocks read = read

abbrev pub own_reading : List ℕ → Result Line WordFault
own_reading line = without_blocks (line_of Free line)

-- The books don't matter to it.
unfoldable pub stop_reading : Reading
stop_reading books line = own_reading line
