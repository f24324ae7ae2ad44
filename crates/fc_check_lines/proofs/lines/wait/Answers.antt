use Rattle.std.proofs.Common.{◌≡◌, []}
use Rattle.std.proofs.lemmas.Option.{MatchOption-at_none, MatchOption-at_some}
use Rattle.fc_check_lines.proofs.Standing.{waits_first, waits_found, waits_next, waits_none, waits_over}
use Rattle.fc_check_lines.specs.Bytes.{BeginWith, by_grammar, segments_in}
use Rattle.fc_check_lines.specs.Standing.{agenda_of}
use Rattle.law_stands.specs.Names.{named}
use Rattle.fc_check_lines.proofs.lines.wait.Goals as goal

pub segments-init : goal.segments-init
segments-init g c = waits_first (g.T.Told.grain c.args.told.now) by_grammar (agenda_of c.args.asking (segments_in c.args.rest.now)) (named c.args.names.items (g.T.Told.whole c.args.told.now))

pub returns-in-Some : goal.returns-in-Some
returns-in-Some g c =
    waits_found (g.T.Told.grain c.args.told.now) by_grammar (agenda_of c.args.asking (segments_in c.args.rest.now)) (named c.args.names.items (g.T.Told.whole c.args.told.now))
    (named c.segments.names.items (g.T.Told.whole c.args.told.now)) (named c.go_on.new.names.items (g.T.Told.whole c.args.told.now))
    c.segments.asking c.in-Some.asking c.in_ok-left.left (segments_in c.segments.rest.now) c.segments.invariant c.in_ok-left.ensures c.in-Some.is

pub segments-preserved : goal.segments-preserved
segments-preserved g c =
    let begun : BeginWith c.segments.rest.now c.in-Some-found.segment c.in-Some-found.behind.now = MatchOption-at_some _ _ _ c.in-Some-found.is c.in_ok-found.ensures in
    waits_next (g.T.Told.grain c.args.told.now) by_grammar (agenda_of c.args.asking (segments_in c.args.rest.now)) (named c.args.names.items (g.T.Told.whole c.args.told.now))
    (named c.go_on.new.names.items (g.T.Told.whole c.args.told.now)) c.segments.rest.now c.in-Some-found.behind.now begun.segment
    (agenda_of c.in_ok-asking-in-Some-found.asking (segments_in c.in-Some-found.behind.now))
    (waits_none (g.T.Told.grain c.args.told.now) by_grammar (agenda_of c.args.asking (segments_in c.args.rest.now)) (named c.args.names.items (g.T.Told.whole c.args.told.now))
    (named c.segments.names.items (g.T.Told.whole c.args.told.now)) (named c.go_on.new.names.items (g.T.Told.whole c.args.told.now))
    c.segments.asking c.in_ok-left.left (segments_in c.segments.rest.now) c.segments.invariant c.in_ok-left.ensures c.in_default.is)
    begun.segments
    (c.in_ok-asking-in-Some-found.ensures begun.segment (segments_in c.in-Some-found.behind.now) c.go_on.new.names.items begun.is_read)

pub returns-in-None : goal.returns-in-None
returns-in-None g c =
    let none : segments_in c.segments.rest.now ≡ [] = MatchOption-at_none _ _ c.in-None.is c.in_ok-found.ensures in
    waits_over (g.T.Told.grain c.args.told.now) by_grammar (agenda_of c.args.asking (segments_in c.args.rest.now)) (named c.args.names.items (g.T.Told.whole c.args.told.now))
    (named c.go_on.new.names.items (g.T.Told.whole c.args.told.now)) (segments_in c.segments.rest.now)
    (waits_none (g.T.Told.grain c.args.told.now) by_grammar (agenda_of c.args.asking (segments_in c.args.rest.now)) (named c.args.names.items (g.T.Told.whole c.args.told.now))
    (named c.segments.names.items (g.T.Told.whole c.args.told.now)) (named c.go_on.new.names.items (g.T.Told.whole c.args.told.now))
    c.segments.asking c.in_ok-left.left (segments_in c.segments.rest.now) c.segments.invariant c.in_ok-left.ensures c.in_default.is)
    none
