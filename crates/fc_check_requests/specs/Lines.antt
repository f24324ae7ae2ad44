-- What lines ask behind their last requests, as they were read.
use Rattle.std.specs.Prelude.{Ok, Err}
use Rattle.fc_base.specs.declared.behind.Behind.{Behind}
use Rattle.fc_base.specs.declared.command.ScriptLine.{ScriptLine}
use Rattle.fc_base.specs.declared.command.ScriptLine.TheVariants.{Read, Unread}
use Rattle.fc_books.specs.Books.{Books}
use Rattle.fc_legal.specs.Agenda.{behind_line}

-- Nothing is asked behind a fault.
abbrev pub script_behind : Books → ScriptLine → Behind
script_behind b (Read line) = behind_line b (Ok line)
script_behind b (Unread fault) = behind_line b (Err fault)
