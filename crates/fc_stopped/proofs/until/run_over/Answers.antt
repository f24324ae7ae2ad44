-- Memory was wanted before anything was read; or the first image isn't written; or the session runs.
use Rattle.std.proofs.Common.{◌≡◌, ◌++◌, List, [], Vec, Global, length, map, ap, sym, subst, ◌∙◌, arith, refl, vec_len, vec_capacity}
use Rattle.fc_call.specs.Call.{Call}
use Rattle.fc_format.specs.Halves.{half_size}
use Rattle.fc_grains.specs.Grains.{total_of}
use Rattle.fc_lane.specs.Lane.{LaneView}
use Rattle.fc_lanes.specs.Dealing.{AreAllIn, AreByLane, disks_in}
use Rattle.fc_mdisk.specs.Disk.{DiskState}
use Rattle.fc_metadisk.specs.Stop.{StopState, found_after}
use Rattle.fc_noted.specs.Metered.{FirstPasses}
use Rattle.fc_noted.specs.Stopping.{AreCounted}
use Rattle.fc_owner.specs.FirstTold.{first_told}
use Rattle.fc_stands.specs.Store.{StoreView}
use Rattle.fc_stopped.proofs.Found.{found_leaves, unopened}
use Rattle.fc_stopped.proofs.Lanes.{count_in}
use Rattle.fc_stopped.proofs.Opening.{begin_counted, begin_lanes, first_failed, over_opened, synced_at_first, taken_over, unopened_ends, zeros_at_first}
use Rattle.fc_stopped.proofs.Starved.{starved_named, starved_stop}
use Rattle.fc_stopped.proofs.Stops.{half_as}
use Rattle.fc_stopped.specs.Ending.{over_disks}
use Rattle.fc_stopped.specs.Lines.{HasLanes}
use Rattle.fc_stopped.proofs.until.run_over.Goals as goal

pub returns-in-Err-clause-ends : goal.returns-in-Err-clause-ends
returns-in-Err-clause-ends g c = starved_stop c.args.call _ _ refl refl refl (c.in-Err.ensures.err ∙ c.requires.empty)

pub returns-in_default-clause-ends : goal.returns-in_default-clause-ends
returns-in_default-clause-ends g c = starved_named c.args.call _ _ refl refl refl c.in-Ok.ensures.ok

pub returns-in-Err-first_store-clause-ends : goal.returns-in-Err-first_store-clause-ends
returns-in-Err-first_store-clause-ends g c = starved_named c.args.call _ _ refl refl refl c.in-Ok.ensures.ok

pub over-requires-clause-begins : goal.over-requires-clause-begins
over-requires-clause-begins g c =
    let begins = taken_over g.D.Mdisk.meaning c.replace-taken.ensures.value c.len-count.ensures c.requires.few c.requires.fresh c.in-Ok-first_store.ensures.stands c.in-Ok-first_store.ensures.grain c.in-Ok-first_store.ensures.begin in
    (map g.D.Mdisk.meaning c.args.disks.now.items, begins)

pub over-requires-clause-zeros : goal.over-requires-clause-zeros
over-requires-clause-zeros g c = zeros_at_first c.requires.zeros.0 c.args.call c.of.result (c.of.ensures ∙ c.requires.zeros.1)

pub over-requires-clause-synced : goal.over-requires-clause-synced
over-requires-clause-synced g c = synced_at_first c.requires.zeros.0 c.args.call c.of.result (c.of.ensures ∙ c.requires.zeros.1)

pub run_noted-requires-clause-stands : goal.run_noted-requires-clause-stands
run_noted-requires-clause-stands g c =
    let old : List DiskState = map g.D.Mdisk.meaning c.args.disks.now.items in
    let begins = taken_over g.D.Mdisk.meaning c.replace-taken.ensures.value c.len-count.ensures c.requires.few c.requires.fresh c.in-Ok-first_store.ensures.stands c.in-Ok-first_store.ensures.grain c.in-Ok-first_store.ensures.begin in
    let room : vec_capacity c.replace-taken.new.dest ≡ vec_capacity c.in-Ok-with_capacity.room = ap (λ v. vec_capacity v) c.replace-taken.ensures.after in (
      old,
      over_opened c.requires.zeros.0 c.of.result c.in-Ok-first_store.ensures.grain begins c.in-Ok-over.ensures.store c.in-Ok-over.ensures.live (c.in-Ok-over.ensures.noted old begins) (c.of.ensures ∙ c.requires.zeros.1)
          c.requires.counted (omega arith) c.in-Ok-over.ensures.counted,
      omega (arith, begins.counted, room, c.in-Ok-with_capacity.ensures.capacity),
    )

pub give_disks-requires : goal.give_disks-requires
give_disks-requires g c =
    let old : List DiskState = map g.D.Mdisk.meaning c.args.disks.now.items in
    let begins = taken_over g.D.Mdisk.meaning c.replace-taken.ensures.value c.len-count.ensures c.requires.few c.requires.fresh c.in-Ok-first_store.ensures.stands c.in-Ok-first_store.ensures.grain c.in-Ok-first_store.ensures.begin in
    let total : total_of (disks_in c.in-Err-over.store.lanes) ≡ length old =
    ap (λ (s : StoreView). total_of (disks_in s.lanes)) c.in-Err-over.ensures.back
    ∙ count_in (over_disks old) c.in-Ok-first_store.store.lanes (begin_lanes c.len-count.result old c.in-Ok-first_store.store c.in-Ok-first_store.ensures.grain begins) in
    let room : vec_capacity c.replace-taken.new.dest ≡ vec_capacity c.in-Ok-with_capacity.room = ap (λ v. vec_capacity v) c.replace-taken.ensures.after in
    let none : vec_len c.replace-taken.new.dest ≡ vec_len c.in-Ok-with_capacity.room = ap (λ v. vec_len v) c.replace-taken.ensures.after in
    omega (arith, begins.counted, total, room, none, c.in-Ok-with_capacity.ensures.len, c.in-Ok-with_capacity.ensures.capacity)

pub end_unopened-requires : goal.end_unopened-requires
end_unopened-requires g c =
    unopened (found_after c.in-Err-over.meta) c.in-Err-over.stop c.in-Err-over.ensures.not_log
    (c.in-Err-over.ensures.any_moment.each (found_after c.in-Err-over.meta) (found_leaves c.in-Err-over.meta))

pub returns-in-Ok-over-clause-ends : goal.returns-in-Ok-over-clause-ends
returns-in-Ok-over-clause-ends g c =
    let old : List DiskState = map g.D.Mdisk.meaning c.args.disks.now.items in
    let begins = taken_over g.D.Mdisk.meaning c.replace-taken.ensures.value c.len-count.ensures c.requires.few c.requires.fresh c.in-Ok-first_store.ensures.stands c.in-Ok-first_store.ensures.grain c.in-Ok-first_store.ensures.begin in
    half_as c.args.call _ _ _ (c.in-Ok-over.ensures.counted.3 ∙ ap (λ (d : StopState). half_size d.bytes) c.of.ensures)
    (c.run_noted.ensures.ends old
    (over_opened c.requires.zeros.0 c.of.result c.in-Ok-first_store.ensures.grain begins c.in-Ok-over.ensures.store c.in-Ok-over.ensures.live (c.in-Ok-over.ensures.noted old begins) (c.of.ensures ∙ c.requires.zeros.1)
    c.requires.counted (omega arith) c.in-Ok-over.ensures.counted))

pub returns-in-Err-over-clause-ends : goal.returns-in-Err-over-clause-ends
returns-in-Err-over-clause-ends g c =
    let m = g.D.Mdisk.meaning in
    let old : List DiskState = map m c.args.disks.now.items in
    let store : StoreView = c.in-Ok-first_store.store in
    let begins = taken_over m c.replace-taken.ensures.value c.len-count.ensures c.requires.few c.requires.fresh c.in-Ok-first_store.ensures.stands c.in-Ok-first_store.ensures.grain c.in-Ok-first_store.ensures.begin in
    let given : List g.row.D.Denot = c.give_disks.ensures.0 in
    let none : c.replace-taken.new.dest.items ≡ [] = ap (λ (v : Vec g.row.D.Denot Global). v.items) c.replace-taken.ensures.after ∙ c.in-Ok-with_capacity.ensures.items in
    let back : c.give_disks.new.into.items ≡ given = c.give_disks.ensures.1 ∙ ap (λ (xs : List g.row.D.Denot). xs ++ given) none in
    let call : Call = record {
      status = c.end_unopened.result;
      source = g.S.Source.meaning c.args.source.now;
      source' = g.S.Source.meaning c.args.source.now;
      sink = g.K.Sink.meaning c.args.sink.now;
      sink' = g.K.Sink.meaning c.end_unopened.new.sink;
      disks = old;
      disks' = map g.D.Mdisk.meaning c.give_disks.new.into.items;
      history = c.add_main.new.history;
    } in
    let lanes : List LaneView = c.in-Err-over.store.lanes in
    let has : HasLanes (over_disks old) lanes =
    subst (λ (s : StoreView). HasLanes (over_disks old) s.lanes) (sym c.in-Err-over.ensures.back) (begin_lanes c.len-count.result old store c.in-Ok-first_store.ensures.grain begins) in
    let counted : AreCounted (first_told old) lanes = subst (λ (s : StoreView). AreCounted (first_told old) s.lanes) (sym c.in-Err-over.ensures.back) (begin_counted c.len-count.result old store begins) in
    unopened_ends c.args.call (half_size c.args.meta.bytes) call (found_after c.in-Err-over.meta) lanes c.in-Ok.ensures.ok refl
    (c.in-Err-over.ensures.any_moment.each (found_after c.in-Err-over.meta) (found_leaves c.in-Err-over.meta)) has counted
    (subst (λ (xs : List g.row.D.Denot). AreAllIn lanes (map m xs)) (sym back) c.give_disks.ensures.2)
    (subst (λ (xs : List g.row.D.Denot). AreByLane lanes (map m xs)) (sym back) c.give_disks.ensures.3)
    c.in-Err-over.stop
    (λ is. first_failed c.requires.zeros.0 c.args.call c.of.result c.in-Err-over.meta (c.of.ensures ∙ c.requires.zeros.1) c.requires.counted (omega arith) (c.in-Err-over.ensures.within is) (c.in-Err-over.ensures.failed is))
    (λ is. subst (λ (d : StopState). FirstPasses (half_size d.bytes)) c.of.ensures (c.in-Err-over.ensures.full is))
    c.end_unopened.ensures
