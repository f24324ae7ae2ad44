use Rattle.std.proofs.Common.{ap, refl, ◌∙◌}
use Rattle.fc_check_lines.proofs.Standing.{block_begins, single_begins}
use Rattle.fc_check_lines.specs.declared.lines.Asking.TheVariants.{Faults}
use Rattle.fc_legal.specs.Scripts.{faults_asked}
use Rattle.fc_check_lines.proofs.lines.begin.Goals as goal

pub returns-in-Single : goal.returns-in-Single
returns-in-Single g c =
    single_begins (g.T.Told.grain c.args.told.now) (g.T.Told.whole c.args.told.now) c.begin_line.result c.args.segment c.in-Single.line c.in-Single.is c.begin_line.ensures

pub returns-in_ok-requests-in-Block : goal.returns-in_ok-requests-in-Block
returns-in_ok-requests-in-Block g c =
    block_begins (g.T.Told.grain c.args.told.now) (g.T.Told.whole c.args.told.now) c.args.segment c.in-Block.block c.in_ok-requests-in-Block.requests (Faults c.in_ok-requests-in-Block.requests c.in-Block.block.actors)
    c.in-Block.is (c.in_ok-requests-in-Block.ensures ∙ ap faults_asked c.as_slice.ensures) refl
