use Rattle.std.proofs.Common.{ap, sym, ◌∙◌, List}
use Rattle.fc_check_lines.proofs.Standing.{actors_ask, faults_ask, nothing_asks, others_ask, own_asks, seconds_ask}
use Rattle.fc_check_lines.specs.Standing.{agenda_of}
use Rattle.fc_legal.specs.Agenda.{Actors}
use Rattle.fc_legal.specs.Scripts.{Script}
use Rattle.fc_check_lines.proofs.lines.Asking.asks.Goals as goal

pub returns-in-Nothing : goal.returns-in-Nothing
returns-in-Nothing g c = nothing_asks (g.T.Told.grain c.args.told.now) c.args.actor c.args.request.now (g.T.Told.whole c.args.told.now) c.args.self.now c.in-Nothing.is

pub returns-in-Own : goal.returns-in-Own
returns-in-Own g c =
    own_asks (g.T.Told.grain c.args.told.now) c.args.actor c.args.request.now (g.T.Told.whole c.args.told.now) c.args.self.now c.in-Own.requests c.in-Own.behind c.main_asks.result c.in-Own.is c.main_asks.ensures

pub returns-then-actor-ne0 : goal.returns-then-actor-ne0
returns-then-actor-ne0 g c =
    others_ask (g.T.Told.grain c.args.told.now) c.args.actor c.args.request.now (g.T.Told.whole c.args.told.now) c.args.self.now c.in-Seconds.passing c.in-Seconds.is c.if-actor-ne0.true

pub returns-else-actor-ne0 : goal.returns-else-actor-ne0
returns-else-actor-ne0 g c =
    seconds_ask (g.T.Told.grain c.args.told.now) c.args.actor c.args.request.now (g.T.Told.whole c.args.told.now) c.asks.result c.args.self.now c.in-Seconds.passing c.in-Seconds.is c.if-actor-ne0.false c.asks.ensures

pub returns-in-Faults : goal.returns-in-Faults
returns-in-Faults g c =
    faults_ask (g.T.Told.grain c.args.told.now) c.args.actor c.args.request.now (g.T.Told.whole c.args.told.now) c.args.self.now c.in-Faults.requests c.in-Faults.actors c.main_asks-in-Faults.result c.in-Faults.is
    c.main_asks-in-Faults.ensures

pub returns-in-Actors : goal.returns-in-Actors
returns-in-Actors g c =
    actors_ask (g.T.Told.grain c.args.told.now) c.args.actor c.args.request.now (g.T.Told.whole c.args.told.now) c.args.self.now c.as_slice.result.now c.do_ask.result
    (λ segs. ap (λ asking. agenda_of asking segs) c.in-Actors.is ∙ ap (λ (scripts : List Script). Actors scripts segs) (sym c.as_slice.ensures.value)) c.do_ask.ensures
