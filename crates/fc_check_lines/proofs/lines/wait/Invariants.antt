use Rattle.std.proofs.Common.{[], length}
use Rattle.fc_agenda.specs.Goes.{Goes}
use Rattle.fc_check_lines.specs.Bytes.{by_grammar, segments_in}
use Rattle.fc_check_lines.specs.Standing.{agenda_of}
use Rattle.fc_legal.specs.Agenda.{session_rules}
use Rattle.law_stands.specs.Names.{named}
use Rattle.fc_check_lines.proofs.lines.wait.Given as goal

-- so far it went on without an entry
abbrev pub invariant-segments : goal.invariant-segments
invariant-segments g l =
    Goes (session_rules (g.T.Told.grain l.told) by_grammar)
    (agenda_of l.initial.asking (segments_in l.initial.rest)) (named l.initial.names.items (g.T.Told.whole l.told)) []
    (agenda_of l.asking (segments_in l.rest)) (named l.names.items (g.T.Told.whole l.told))

abbrev pub decreases-segments : goal.decreases-segments
decreases-segments g l = length l.rest
