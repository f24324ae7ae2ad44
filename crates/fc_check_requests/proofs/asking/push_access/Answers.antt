-- An access that isn't refused.
use Rattle.std.proofs.Common.{◌≡◌, ◌++◌, OnOk, List, sym, subst}
use Rattle.fc_base.specs.declared.request.Request.{Request}
use Rattle.fc_check_requests.proofs.AskingLemmas.{span_asked}
use Rattle.fc_check_requests.proofs.asking.push_access.Goals as goal

pub whole_span-requires-clause-some : goal.whole_span-requires-clause-some
whole_span-requires-clause-some g c = (c.in-Some.ensures (g.T.Told.whole c.args.told.now).books (sym c.registry.ensures)).some

pub whole_span-requires-clause-few : goal.whole_span-requires-clause-few
whole_span-requires-clause-few g c = (c.in-Some.ensures (g.T.Told.whole c.args.told.now).books (sym c.registry.ensures)).few

pub returns-in-Some : goal.returns-in-Some
returns-in-Some g c =
    subst (λ (rs : List Request). OnOk c.push_access.result (c.push_access.new.self ≡ c.args.requests.now ++ rs))
    (span_asked c.grain_size-size.result (g.T.Told.grain c.args.told.now) (g.T.Told.whole c.args.told.now).books c.args.volume.now c.args.block c.args.count c.args.byte c.in-Some.id c.args.command.now _
    c.whole_span.ensures.left c.requires (c.in-Some.ensures (g.T.Told.whole c.args.told.now).books (sym c.registry.ensures)) c.grain_size-size.ensures)
    c.push_access.ensures
