-- What a call leaves that answers a command, and which lines the store answers by itself.
use Rattle.std.specs.Prelude.{◌≡◌, [], None, Result}
use Rattle.fc_base.specs.Tables.{Tables, volume_named}
use Rattle.fc_base.specs.declared.command.Command.{Command}
use Rattle.fc_base.specs.declared.command.Command.TheVariants.{Mkpreset}
use Rattle.fc_base.specs.declared.command.Line.{Line}
use Rattle.fc_base.specs.declared.command.Line.TheVariants.{Command as CommandLine}
use Rattle.fc_entry.specs.HistoryState.{HistoryState}
use Rattle.fc_entry.specs.declared.stop.Stop.{Stop}
use Rattle.fc_legal.specs.Added.{Answered, IsTold}
use Rattle.fc_legal.specs.Agenda.{Own, Reading, behind_command, session_rules}
use Rattle.fc_legal.specs.Asked.{command_asked}
use Rattle.fc_legal.specs.Whole.{Whole}
use Rattle.fc_stands.specs.Store.{StandsFor, StoreView}

-- Whatever is told before it, the history goes through what the command asks, and then through what that asks behind it.
abbrev pub AnswersCommand : Result (Unit {0}) Stop → Command → StoreView → StoreView → HistoryState → HistoryState → Type 0
AnswersCommand result command old new before after = (read : Reading) (w : Whole) → IsTold (StandsFor old) before w →
    Answered result (StandsFor new) (session_rules old.control.grain read)
    (Own (command_asked old.control.grain w.books command) (behind_command w.books command) []) w before after

-- All but a preset whose source names a volume: in place of that other lines are asked, each by what the one before was answered.
abbrev pub IsStoreCommand : Tables → Command → Type 0
IsStoreCommand tables (Mkpreset source preset name) = volume_named tables source ≡ None
IsStoreCommand tables command = Unit {0}

abbrev pub IsStoreLine : Tables → Line → Type 0
IsStoreLine tables (CommandLine command) = IsStoreCommand tables command
IsStoreLine tables line = Unit {0}
