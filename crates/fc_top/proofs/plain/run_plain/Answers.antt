-- Memory was wanted before anything was read; or the store is made over the disks.
use Rattle.std.proofs.Common.{◌≡◌, List, ◌∙◌, ap, arith, length, map, subst, inr, vec_capacity}
use Rattle.std.proofs.lemmas.List.{length-map}
use Rattle.fc_base.specs.declared.size.GrainSize.{GrainSize}
use Rattle.fc_call.specs.Call.{Call}
use Rattle.fc_entry.specs.HistoryState.{HistoryState}
use Rattle.fc_grains.proofs.KindCounts.{total-pool}
use Rattle.fc_grains.specs.Grains.{pool_of, silent_of, total_of}
use Rattle.fc_lanes.specs.Dealing.{disks_in}
use Rattle.fc_mdisk.specs.Disk.{DiskState}
use Rattle.fc_stands.specs.Store.{StandsFor}
use Rattle.fc_top.proofs.PlainLemmas.{named_alone, starved_alone}
use Rattle.fc_owner.specs.FirstTold.{first_told}
use Rattle.fc_top.specs.PlainEnds.{PlainEnds}
use Rattle.fc_top.proofs.plain.run_plain.Goals as goal

pub returns-in-Err-clause-ends : goal.returns-in-Err-clause-ends
returns-in-Err-clause-ends g c =
    let old : List DiskState = map g.D.Mdisk.meaning c.args.disks.now.items in
    let is = c.in-Err.ensures.err ∙ c.requires.empty in
    starved_alone c.args.form c.args.grain (g.S.Source.meaning c.args.source.now) (g.K.Sink.meaning c.args.sink.now) old old c.add_main.new.history
    (ap (λ (h : HistoryState). h.entries) is) (inr is)

pub returns-in-Err-with_capacity-clause-ends : goal.returns-in-Err-with_capacity-clause-ends
returns-in-Err-with_capacity-clause-ends g c =
    let old : List DiskState = map g.D.Mdisk.meaning c.args.disks.now.items in
    named_alone c.args.form c.args.grain (g.S.Source.meaning c.args.source.now) (g.K.Sink.meaning c.args.sink.now) old old c.add_main.new.history c.in-Ok.ensures.ok

pub returns-in-Err-new-clause-ends : goal.returns-in-Err-new-clause-ends
returns-in-Err-new-clause-ends g c =
    named_alone c.args.form c.args.grain (g.S.Source.meaning c.args.source.now) (g.K.Sink.meaning c.args.sink.now) (map g.D.Mdisk.meaning c.args.disks.now.items)
    (map g.D.Mdisk.meaning c.replace-taken.new.dest.items) c.add_main.new.history c.in-Ok.ensures.ok

-- The store has the disks that were handed in.
pub run_store-requires-clause-stands : goal.run_store-requires-clause-stands
run_store-requires-clause-stands g c = λ κs within.
    let same = c.replace-taken.ensures.value in (
      map g.D.Mdisk.meaning c.args.disks.now.items,
      subst (λ v. StandsFor c.in-Ok-new.store (first_told (map g.D.Mdisk.meaning v.items))) same c.in-Ok-new.ensures.stands,
      c.in-Ok-new.ensures.disks ∙ ap (λ v. pool_of (map g.D.Mdisk.meaning v.items)) same,
      λ told. c.in-Ok-new.ensures.quiet (ap (λ v. silent_of (map g.D.Mdisk.meaning v.items)) same ∙ told),
    )

pub run_store-requires-clause-room : goal.run_store-requires-clause-room
run_store-requires-clause-room g c =
    let old : List DiskState = map g.D.Mdisk.meaning c.args.disks.now.items in
    let counted : disks_in c.in-Ok-new.store.lanes ≡ pool_of old =
    c.in-Ok-new.ensures.disks ∙ ap (λ v. pool_of (map g.D.Mdisk.meaning v.items)) c.replace-taken.ensures.value in
    let total : total_of (disks_in c.in-Ok-new.store.lanes) ≡ length old = ap total_of counted ∙ total-pool old in
    let long : length old ≡ length c.args.disks.now.items = length-map c.args.disks.now.items g.D.Mdisk.meaning in
    let room : vec_capacity c.replace-taken.new.dest ≡ vec_capacity c.in-Ok-with_capacity.room = ap (λ v. vec_capacity v) c.replace-taken.ensures.after in
    omega (arith, total, long, room, c.len.ensures, c.in-Ok-with_capacity.ensures.capacity)

pub returns-in-Ok-new-clause-ends : goal.returns-in-Ok-new-clause-ends
returns-in-Ok-new-clause-ends g c = λ outer outer'.
    let old : List DiskState = map g.D.Mdisk.meaning c.args.disks.now.items in
    let same = c.replace-taken.ensures.value in
    let stands : StandsFor c.in-Ok-new.store (first_told old) =
    subst (λ v. StandsFor c.in-Ok-new.store (first_told (map g.D.Mdisk.meaning v.items))) same c.in-Ok-new.ensures.stands in
    let counted : disks_in c.in-Ok-new.store.lanes ≡ pool_of old =
    c.in-Ok-new.ensures.disks ∙ ap (λ v. pool_of (map g.D.Mdisk.meaning v.items)) same in
    let source = g.S.Source.meaning c.args.source.now in
    let source' = g.S.Source.meaning c.run_store.new.source in
    let call : Call = record {
      status = c.run_store.result;
      source = outer;
      source' = outer';
      sink = g.K.Sink.meaning c.args.sink.now;
      sink' = g.K.Sink.meaning c.run_store.new.sink;
      disks = old;
      disks' = map g.D.Mdisk.meaning c.run_store.new.disks.items;
      history = c.run_store.new.history;
    } in
    let P : GrainSize → Type 0 = λ grain. PlainEnds c.args.form grain source source' call in
    subst P c.in-Ok-new.ensures.grain
    (c.run_store.ensures.ends old outer outer' stands counted
    (λ told. c.in-Ok-new.ensures.quiet (ap (λ v. silent_of (map g.D.Mdisk.meaning v.items)) same ∙ told)))
