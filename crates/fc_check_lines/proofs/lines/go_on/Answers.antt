use Rattle.std.proofs.Common.{ap, refl, ◌∙◌, List}
use Rattle.std.proofs.lemmas.Bool.{iff_false}
use Rattle.fc_blocks.specs.declared.block.ActorRead.{ActorRead}
use Rattle.fc_check_lines.proofs.Standing.{actors_left, faults_begin, faults_stay, nothing_goes, own_ends, own_stays, seconds_end, seconds_stay}
use Rattle.fc_check_lines.specs.Bytes.{by_grammar}
use Rattle.fc_check_lines.specs.declared.lines.Asking.TheVariants.{Actors}
use Rattle.fc_legal.specs.Scripts.{names_with, scripts_of}
use Rattle.fc_legal.specs.Whole.{lanes}
use Rattle.law_stands.specs.Names.{named}
use Rattle.fc_check_lines.proofs.lines.go_on.Goals as goal

pub returns-in-Nothing : goal.returns-in-Nothing
returns-in-Nothing g c =
    nothing_goes (g.T.Told.grain c.args.told.now) by_grammar c.args.asking (named c.args.names.now.items (g.T.Told.whole c.args.told.now)) c.in-Nothing.is

pub returns-then-is_empty : goal.returns-then-is_empty
returns-then-is_empty g c =
    own_ends (g.T.Told.grain c.args.told.now) by_grammar c.args.asking c.in-Own.requests c.in-Own.behind (named c.args.names.now.items (g.T.Told.whole c.args.told.now)) c.in-Own.is
    (c.is_empty.ensures.0 c.if-is_empty.true)

pub returns-else-is_empty : goal.returns-else-is_empty
returns-else-is_empty g c =
    own_stays (g.T.Told.grain c.args.told.now) by_grammar c.args.asking c.in-Own.requests c.in-Own.behind (named c.args.names.now.items (g.T.Told.whole c.args.told.now)) c.in-Own.is
    (iff_false c.is_empty.ensures c.if-is_empty.false)

pub returns-then-fills : goal.returns-then-fills
returns-then-fills g c =
    seconds_stay (g.T.Told.grain c.args.told.now) by_grammar c.args.asking c.in-Seconds.passing c.pass.new.self c.in_ok-fills-in-Seconds.fills (named c.args.names.now.items (g.T.Told.whole c.args.told.now))
    c.in-Seconds.is c.if-fills.true (c.in_ok-fills-in-Seconds.ensures.passed c.args.names.now.items) (c.in_ok-fills-in-Seconds.ensures.upto c.args.names.now.items)

pub returns-else-fills : goal.returns-else-fills
returns-else-fills g c =
    seconds_end (g.T.Told.grain c.args.told.now) by_grammar c.args.asking c.in-Seconds.passing c.pass.new.self c.in_ok-fills-in-Seconds.fills (named c.args.names.now.items (g.T.Told.whole c.args.told.now))
    c.in-Seconds.is c.if-fills.false (c.in_ok-fills-in-Seconds.ensures.passed c.args.names.now.items) (c.in_ok-fills-in-Seconds.ensures.upto c.args.names.now.items)

pub returns-then-not-is_empty : goal.returns-then-not-is_empty
returns-then-not-is_empty g c =
    faults_stay (g.T.Told.grain c.args.told.now) by_grammar c.args.asking c.in-Faults.requests c.in-Faults.actors (named c.args.names.now.items (g.T.Told.whole c.args.told.now)) c.in-Faults.is
    (iff_false c.is_empty-in-Faults.ensures c.if-not-is_empty.true)

pub returns-in_ok-scripts-in-Faults : goal.returns-in_ok-scripts-in-Faults
returns-in_ok-scripts-in-Faults g c =
    faults_begin (g.T.Told.grain c.args.told.now) by_grammar c.args.asking (Actors c.in_ok-scripts-in-Faults.scripts) c.in-Faults.requests c.in-Faults.actors c.in_ok-scripts-in-Faults.scripts.items
    c.args.names.now.items c.begin_actors.new.names.items (g.T.Told.whole c.args.told.now) c.if_asking.result c.in-Faults.is
    (c.is_empty-in-Faults.ensures.0 c.if-not-is_empty.false)
    (c.in_ok-scripts-in-Faults.ensures.names ∙ ap (names_with c.args.names.now.items) c.as_slice.ensures)
    (c.in_ok-scripts-in-Faults.ensures.scripts ∙ ap (λ (actors : List ActorRead). scripts_of (g.T.Told.grain c.args.told.now) (lanes (g.T.Told.whole c.args.told.now)) (g.T.Told.whole c.args.told.now).books c.begin_actors.new.names.items actors) c.as_slice.ensures)
    (λ segs. refl)
    c.if_asking.ensures

pub returns-in-Actors : goal.returns-in-Actors
returns-in-Actors g c =
    actors_left (g.T.Told.grain c.args.told.now) by_grammar c.args.asking (Actors c.in-Actors.scripts) c.in-Actors.scripts.items c.if_asking-in-Actors.result
    (named c.args.names.now.items (g.T.Told.whole c.args.told.now)) c.in-Actors.is (λ segs. refl) c.if_asking-in-Actors.ensures
