-- A script as an agenda.
use Rattle.std.specs.Prelude.{ℕ, ◌+◌, ◌-◌, [], ◌∷◌, map}
use Rattle.fc_base.specs.declared.behind.Behind.TheVariants.{Passing as PassingSeconds}
use Rattle.fc_base.specs.declared.command.Command.{Command}
use Rattle.fc_base.specs.declared.command.Command.TheVariants.{Advance}
use Rattle.fc_base.specs.declared.request.Request.TheVariants.{Command as CommandAsked, Unread as UnreadAsked}
use Rattle.fc_base.specs.declared.size.GrainSize.{GrainSize}
use Rattle.fc_lanes.specs.Asking.{part_of}
use Rattle.fc_legal.specs.Agenda.{Agenda, Own, Seconds, Session}
use Rattle.fc_legal.specs.Asked.{numbers}
use Rattle.fc_script.specs.Passage.{passing_of}
use Rattle.fc_script.specs.declared.script.Script.{Script}
use Rattle.fc_script.specs.declared.script.Script.TheVariants.{Over, Unread, Command as Alone, Parts, Seconds as Passes, Lines}

-- How many seconds a command lets pass if it is done.
abbrev pub seconds_of : Command → ℕ
seconds_of (Advance seconds) = seconds
seconds_of command = 0

-- All that it still asks, with no line behind it.
abbrev pub agenda_of : GrainSize → Script → Agenda
agenda_of grain Over = Session []
agenda_of grain (Unread fault) = Own (UnreadAsked fault ∷ []) (PassingSeconds 0) []
agenda_of grain (Alone command) = Own (CommandAsked command ∷ []) (PassingSeconds (seconds_of command)) []
agenda_of grain (Parts access volume block count next last) =
    Own (map (part_of grain access volume block count) (numbers next (last + 1 - next))) (PassingSeconds 0) []
agenda_of grain (Passes passage) = Seconds (passing_of grain passage) []
agenda_of grain (Lines commands behind) = Own (map (λ (command : Command). CommandAsked command) commands.items) behind []
