-- The store's disks come back.
use Rattle.std.proofs.Common.{◌≡◌, ◌++◌, List, length, map, sym, ◌∙◌, ap, subst, arith}
use Rattle.fc_call.proofs.Statuses.{never_usage}
use Rattle.fc_call.specs.Call.{Call, status_of}
use Rattle.fc_grains.specs.Grains.{total_of}
use Rattle.fc_lanes.specs.Dealing.{disks_in}
use Rattle.fc_mdisk.specs.Disk.{DiskState}
use Rattle.fc_run.specs.Headline.{Session}
use Rattle.fc_run.specs.declared.ended.Ended.{Ended}
use Rattle.fc_stands.specs.Store.{StoreView}
use Rattle.fc_top.proofs.Backs.{DisksAfter-given}
use Rattle.fc_top.proofs.PlainLemmas.{plain_ends}
use Rattle.fc_owner.proofs.SessionOver.{session_disks}
use Rattle.fc_top.specs.DisksBack.{DisksAfter}
use Rattle.fc_owner.specs.StoreRuns.{HasDisks, IsUp, Start}
use Rattle.fc_top.proofs.plain.run_store.Goals as goal

-- The store has its disks, however the session ended.
pub give_disks-requires : goal.give_disks-requires
give_disks-requires g c =
    let start : Start = record { grain = c.args.store.control.grain; disks = c.requires.stands.0 } in
    let store : StoreView = c.run_owner-ended.new.owner.store in
    let session : Session = record {
      ended = c.run_owner-ended.result;
      form = c.args.form;
      source = g.S.Source.meaning c.args.source.now;
      source' = g.S.Source.meaning c.run_owner-ended.new.source;
      sink = g.K.Sink.meaning c.args.sink.now;
      sink' = g.K.Sink.meaning c.run_owner-ended.new.sink;
      history = c.run_owner-ended.new.history;
    } in
    let has : HasDisks start store =
    session_disks start store session
    (c.run_owner-ended.ensures.over c.requires.stands.0 c.requires.stands.1 c.requires.stands.2 c.requires.stands.3) in
    let same : total_of (disks_in store.lanes) ≡ total_of (disks_in c.args.store.lanes) = ap total_of (has ∙ sym c.requires.stands.2) in
    omega (arith, same, c.requires.room, ap length c.requires.none)

pub returns-clause-ran : goal.returns-clause-ran
returns-clause-ran g c = λ usage. never_usage c.run_owner-ended.result (sym c.of.ensures ∙ usage)

pub returns-clause-ends : goal.returns-clause-ends
returns-clause-ends g c = λ old outer outer' stands counted calm.
    let grain = c.args.store.control.grain in
    let start : Start = record { grain = grain; disks = old } in
    let e : Ended = c.run_owner-ended.result in
    let store : StoreView = c.run_owner-ended.new.owner.store in
    let history = c.run_owner-ended.new.history in
    let source = g.S.Source.meaning c.args.source.now in
    let source' = g.S.Source.meaning c.run_owner-ended.new.source in
    let given : List g.row.D.Denot = c.give_disks.ensures.0 in
    let back : c.give_disks.new.into.items ≡ given = c.give_disks.ensures.1 ∙ ap (λ xs. xs ++ given) c.requires.none in
    let call : Call = record {
      status = c.of.result;
      source = outer;
      source' = outer';
      sink = g.K.Sink.meaning c.args.sink.now;
      sink' = g.K.Sink.meaning c.run_owner-ended.new.sink;
      disks = old;
      disks' = map g.D.Mdisk.meaning c.give_disks.new.into.items;
      history = history;
    } in
    let ended = c.run_owner-ended.ensures.over old stands counted calm in
    plain_ends c.args.form grain source source' call e (λ h last. IsUp start store h last) (HasDisks start store) ended.bytes c.of.ensures ended.gave ended.over
    c.run_owner-ended.ensures.limit
    (λ last legal up.
    let after : DisksAfter (status_of e) old (map g.D.Mdisk.meaning given) history.entries last =
    DisksAfter-given e start store (map g.D.Mdisk.meaning given) history last c.give_disks.ensures.2 c.give_disks.ensures.3 c.run_owner-ended.ensures.limit legal up in
    subst (λ s. DisksAfter s old (map g.D.Mdisk.meaning c.give_disks.new.into.items) history.entries last) (sym c.of.ensures)
    (subst (λ (ds : List DiskState). DisksAfter (status_of e) old ds history.entries last) (ap (map g.D.Mdisk.meaning) (sym back)) after))
