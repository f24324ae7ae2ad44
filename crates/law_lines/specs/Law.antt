-- The law of lines: a line that is a command in one scope is that command in every scope that has it.
use Rattle.std.specs.Prelude.{◌≡◌, ℕ, if◌then◌else◌, List, Result, Ok, Err}
use Rattle.fc_base.specs.CommandText.{command_text}
use Rattle.fc_base.specs.declared.command.Command.{Command}
use Rattle.fc_base.specs.declared.command.Command.TheVariants.{Mkvdisk, Rmvdisk, Write, Read, Armfault, Advance, Mkpreset, Lsvdiskroom}
use Rattle.fc_base.specs.declared.command.Line.{Line}
use Rattle.fc_base.specs.declared.command.Line.TheVariants.{Command as OfCommand}
use Rattle.fc_base.specs.declared.command.Scope.{Scope}
use Rattle.fc_base.specs.declared.fault.WordFault.{WordFault}
use Rattle.fc_words.specs.declared.grammar.Family.{Family}
use Rattle.fc_words.specs.declared.grammar.Family.TheVariants.{Storage, Access, CopyServices}
use Rattle.fc_words.specs.Canonical.{IsCommand}
use Rattle.fc_words.specs.Grammar.{scope_has}
use Rattle.fc_words.specs.Lines.{line_of, not_here}

-- what kind of line a command is: of volumes, the room that they take, presets, faults and time; a read or write; of mappings,
-- groups and the other reports
abbrev pub command_family : Command → Family
command_family (Mkvdisk name size unit thin) = Storage
command_family (Rmvdisk volume) = Storage
command_family (Armfault volume grain calls) = Storage
command_family (Advance seconds) = Storage
command_family (Mkpreset source preset name) = Storage
command_family (Lsvdiskroom delim) = Storage
command_family (Write volume block count byte) = Access
command_family (Read volume block count) = Access
command_family _ = CopyServices

-- a command's line in a scope: the command where the scope has lines of its kind, else the scope's fault
abbrev pub command_in : Scope → Command → Result Line WordFault
command_in scope command = if scope_has scope (command_family command) then Ok (OfCommand command) else Err (not_here scope)

pub record LinesLaw : Type 0 where
  -- a line that is a command in one scope, in any scope
  pub anywhere : (one scope : Scope) (line : List ℕ) (command : Command) → line_of one line ≡ Ok (OfCommand command) →
      line_of scope line ≡ command_in scope command
  -- the canonical line of a command, in any scope
  pub canonical : (scope : Scope) (command : Command) → IsCommand command → line_of scope (command_text command) ≡ command_in scope command
