-- A session from a store of which nothing is told yet.
use Rattle.std.proofs.Common.{refl}
use Rattle.fc_run.specs.Headline.{Session}
use Rattle.fc_owner.proofs.OwnerLemmas.{store_begins}
use Rattle.fc_owner.proofs.SessionOver.{store_over}
use Rattle.fc_owner.specs.StoreRuns.{RunsBlocks, Start}
use Rattle.fc_owner.proofs.session.run_owner.Goals as goal

pub run_session-requires-clause-fresh : goal.run_session-requires-clause-fresh
run_session-requires-clause-fresh g c =
    let store = g.L.SingleLines.view c.args.owner.now.store in
    let start : Start = record { grain = store.control.grain; disks = c.requires.stands.0 } in (
      start,
      store_begins (RunsBlocks {S = g.row.L.Denot} g.L.SingleLines.view (goal.F-pre g c.args.owner.now.run) (goal.F-post g c.args.owner.now.run)) start
          c.args.owner.now.reader store c.args.history.now c.requires.able c.requires.reader c.requires.main refl
          c.requires.stands.1 c.requires.stands.2 c.requires.stands.3,
    )

pub returns-clause-over : goal.returns-clause-over
returns-clause-over g c = λ old stands counted calm.
    let store = g.L.SingleLines.view c.args.owner.now.store in
    let start : Start = record { grain = store.control.grain; disks = old } in
    let session : Session = record {
      ended = c.run_session.result;
      form = c.args.form;
      source = g.S.Source.meaning c.args.source.now;
      source' = g.S.Source.meaning c.run_session.new.source;
      sink = g.K.Sink.meaning c.args.sink.now;
      sink' = g.K.Sink.meaning c.run_session.new.sink;
      history = c.run_session.new.history;
    } in
    store_over (RunsBlocks {S = g.row.L.Denot} g.L.SingleLines.view (goal.F-pre g c.run_session.new.answers.run) (goal.F-post g c.run_session.new.answers.run)) start
    c.run_session.new.answers.reader (g.L.SingleLines.view c.run_session.new.answers.store) session
    (c.run_session.ensures.ends start
    (store_begins (RunsBlocks {S = g.row.L.Denot} g.L.SingleLines.view (goal.F-pre g c.args.owner.now.run) (goal.F-post g c.args.owner.now.run)) start
    c.args.owner.now.reader store c.args.history.now c.requires.able c.requires.reader c.requires.main refl stands counted calm))
