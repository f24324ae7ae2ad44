use Rattle.std.proofs.Common.{ℕ, List, [], IfOk, subst}
use Rattle.fc_check_lines.specs.Bytes.{by_grammar, segments_in}
use Rattle.fc_check_lines.specs.Leading.{LeadTo}
use Rattle.fc_check_lines.specs.Standing.{Standing}
use Rattle.fc_legal.specs.Agenda.{Session}
use Rattle.law_stands.specs.Names.{named}
use Rattle.fc_check_lines.proofs.lines.Lines.open.Goals as goal

pub returns : goal.returns
returns g c =
    subst
    (λ (names : List (List ℕ)). IfOk c.wait.result (λ (lines : Standing). LeadTo (g.T.Told.grain c.args.told.now) by_grammar (Session (segments_in c.args.session.now)) (named names (g.T.Told.whole c.args.told.now)) []
    lines.agenda (named lines.names (g.T.Told.whole c.args.told.now))))
    c.in_ok-names.ensures c.wait.ensures
