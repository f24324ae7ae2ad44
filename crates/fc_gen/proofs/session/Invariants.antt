-- The lines so far, and those to come, are the session.
use Rattle.std.proofs.Common.{◌≡◌, ◌++◌, ◌-◌}
use Rattle.fc_gen.specs.Session.{drawn_commands, lines_of, session_text}
use Rattle.fc_gen.proofs.session.Given as goal

abbrev pub invariant-loop : goal.invariant-loop
invariant-loop l =
    l.text.bytes.items ++ lines_of (drawn_commands (5000 - l.counter) l.draws.state) ≡ session_text l.number
