use Rattle.std.proofs.Common.{◌≡◌, ◌+◌, ℕ, List, inl, length, take, refl, sym, ap, ◌∙◌, subst, arith}
use Rattle.std.specs.List.{sum_by}
use Rattle.fc_base.specs.Count.{HasRisen}
use Rattle.fc_metadisk.specs.Disk.{LeavesOnly}
use Rattle.fc_meta.specs.declared.series.Call.{Call}
use Rattle.fc_meta.specs.declared.meta.Meta.{Meta}
use Rattle.fc_meta.specs.States.{found}
use Rattle.fc_meta.specs.Answers.{more_calls}
use Rattle.fc_meta.specs.Order.{AtRest, HasNoRoom, TakesMemory, OfFirst, disk_calls, IsAt, stage_behind, stands, LeavesFront}
use Rattle.fc_meta.proofs.Runs.{going, stands_now, is_at, leaves_now, split, is_ready, leaves_either, moments_more, going_on, whole, calls_counted, counted_on, refused_holds, full_same}
use Rattle.fc_meta.specs.Answers.{IsStopped}
use Rattle.fc_meta.proofs.meta.Meta.make_all.Goals as goal

pub loop-done-init : goal.loop-done-init
loop-done-init g c =
    record { going = going g.M.MetaDisk.seen g.M.MetaDisk.may_leave g.M.MetaDisk.moment g.M.MetaDisk.left_since g.met.M.MetaDisk.only_now c.args.calls.now c.args.self.now c.requires.rests c.requires.order; calls = refl; quiet = refl; size = refl }

pub make-requires : goal.make-requires
make-requires g c =
    is_ready g.M.MetaDisk.seen g.M.MetaDisk.may_leave g.M.MetaDisk.moment g.M.MetaDisk.left_since c.args.calls.now c.loop-done.done c.args.self.now c.loop-done.self c.loop-done.invariant.going c.index-calls-done.result c.index-calls-done.is c.loop-done-test.true

pub returns-in-Err-clause-at : goal.returns-in-Err-clause-at
returns-in-Err-clause-at g c =
    refused_holds _ (c.make.new.self ≡ c.loop-done.self) c.in-Err.error c.in-Err.ensures.refused
    (λ same. subst (λ (m : Meta g.row.M.Denot). IsAt g.M.MetaDisk.seen g.M.MetaDisk.may_leave (stage_behind AtRest (take c.loop-done.done c.args.calls.now)) m) (sym same) (is_at g.M.MetaDisk.seen g.M.MetaDisk.may_leave g.M.MetaDisk.moment g.M.MetaDisk.left_since c.args.calls.now c.loop-done.done c.args.self.now c.loop-done.self c.loop-done.invariant.going))

pub returns-in-Err-clause-found : goal.returns-in-Err-clause-found
returns-in-Err-clause-found g c =
    refused_holds _ (c.make.new.self ≡ c.loop-done.self) c.in-Err.error c.in-Err.ensures.refused
    (λ same. ap (found g.M.MetaDisk.seen) same ∙ stands_now g.M.MetaDisk.seen g.M.MetaDisk.may_leave g.M.MetaDisk.moment g.M.MetaDisk.left_since c.args.calls.now c.loop-done.done c.args.self.now c.loop-done.self c.loop-done.invariant.going)

pub returns-in-Err-clause-durable : goal.returns-in-Err-clause-durable
returns-in-Err-clause-durable g c =
    refused_holds _ (c.make.new.self ≡ c.loop-done.self) c.in-Err.error c.in-Err.ensures.refused
    (λ same r may. leaves_now g.M.MetaDisk.seen g.M.MetaDisk.may_leave g.M.MetaDisk.moment g.M.MetaDisk.left_since c.args.calls.now c.loop-done.done c.args.self.now c.loop-done.self c.loop-done.invariant.going r
    (subst (λ (m : Meta g.row.M.Denot). g.M.MetaDisk.may_leave m.disk r) same may))

pub returns-in-Err-clause-crash : goal.returns-in-Err-clause-crash
returns-in-Err-clause-crash g c =
    leaves_either g.M.MetaDisk.seen g.M.MetaDisk.may_leave g.M.MetaDisk.moment g.M.MetaDisk.left_since c.args.calls.now c.loop-done.done c.args.self.now c.loop-done.self c.loop-done.invariant.going c.index-calls-done.result c.index-calls-done.is c.loop-done-test.true
    g.met.M.MetaDisk.counts_now c.make.new.self.disk c.make.ensures.treats.any_moment

pub returns-in-Err-clause-any_moment : goal.returns-in-Err-clause-any_moment
returns-in-Err-clause-any_moment g c =
    moments_more g.M.MetaDisk.seen g.M.MetaDisk.may_leave g.M.MetaDisk.moment g.M.MetaDisk.left_since c.args.calls.now c.loop-done.done c.args.self.now c.loop-done.self c.loop-done.invariant.going c.index-calls-done.result c.index-calls-done.is c.loop-done-test.true
    c.make.new.self.disk c.make.ensures.treats.any_moment

pub returns-in-Err-clause-failed : goal.returns-in-Err-clause-failed
returns-in-Err-clause-failed g c =
    λ is. subst (λ (n : ℕ). HasRisen n (g.M.MetaDisk.fault_count c.make.new.self.disk)) c.loop-done.invariant.quiet (c.in-Err.ensures.treats.asks.failed is)

pub loop-done-preserved : goal.loop-done-preserved
loop-done-preserved g c =
    record {
      going = going_on g.M.MetaDisk.seen g.M.MetaDisk.may_leave g.M.MetaDisk.moment g.M.MetaDisk.left_since c.args.calls.now c.loop-done.done c.args.self.now c.loop-done.self c.loop-done.invariant.going c.index-calls-done.result c.index-calls-done.is c.loop-done-test.true c.make.new.self c.in-Ok.ensures.made c.make.ensures.treats.any_moment;
      calls = counted_on c.args.calls.now c.loop-done.done c.index-calls-done.result (g.M.MetaDisk.calls c.args.self.now.disk) (g.M.MetaDisk.calls c.loop-done.self.disk) (g.M.MetaDisk.calls c.make.new.self.disk)
          c.index-calls-done.is c.loop-done-test.true c.loop-done.invariant.calls
          (c.in-Ok.ensures.treats.asks.counted ∙ ap (λ (n : ℕ). more_calls n (g.M.MetaDisk.calls c.loop-done.self.disk)) (calls_counted g.M.MetaDisk.seen c.index-calls-done.result c.loop-done.self));
      quiet = c.in-Ok.ensures.treats.asks.quiet ∙ c.loop-done.invariant.quiet;
      size = c.make.ensures.treats.size ∙ c.loop-done.invariant.size;
    }

pub returns-clause-at : goal.returns-clause-at
returns-clause-at g c =
    subst (λ (z : List Call). IsAt g.M.MetaDisk.seen g.M.MetaDisk.may_leave (stage_behind AtRest z) c.loop-done.self)
    (whole g.M.MetaDisk.seen g.M.MetaDisk.may_leave g.M.MetaDisk.moment g.M.MetaDisk.left_since c.args.calls.now c.loop-done.done c.args.self.now c.loop-done.self c.loop-done.invariant.going (length c.args.calls.now) c.loop-done-test.false (omega arith)) (is_at g.M.MetaDisk.seen g.M.MetaDisk.may_leave g.M.MetaDisk.moment g.M.MetaDisk.left_since c.args.calls.now c.loop-done.done c.args.self.now c.loop-done.self c.loop-done.invariant.going)

pub returns-clause-found : goal.returns-clause-found
returns-clause-found g c =
    stands_now g.M.MetaDisk.seen g.M.MetaDisk.may_leave g.M.MetaDisk.moment g.M.MetaDisk.left_since c.args.calls.now c.loop-done.done c.args.self.now c.loop-done.self c.loop-done.invariant.going
    ∙ ap (stands (found g.M.MetaDisk.seen c.args.self.now)) (whole g.M.MetaDisk.seen g.M.MetaDisk.may_leave g.M.MetaDisk.moment g.M.MetaDisk.left_since c.args.calls.now c.loop-done.done c.args.self.now c.loop-done.self c.loop-done.invariant.going (length c.args.calls.now) c.loop-done-test.false (omega arith))

pub returns-clause-durable : goal.returns-clause-durable
returns-clause-durable g c =
    λ r may. leaves_now g.M.MetaDisk.seen g.M.MetaDisk.may_leave g.M.MetaDisk.moment g.M.MetaDisk.left_since c.args.calls.now c.loop-done.done c.args.self.now c.loop-done.self c.loop-done.invariant.going r may
    ∙ ap (stands (found g.M.MetaDisk.seen c.args.self.now)) (whole g.M.MetaDisk.seen g.M.MetaDisk.may_leave g.M.MetaDisk.moment g.M.MetaDisk.left_since c.args.calls.now c.loop-done.done c.args.self.now c.loop-done.self c.loop-done.invariant.going (length c.args.calls.now) c.loop-done-test.false (omega arith))

pub returns-clause-crash : goal.returns-clause-crash
returns-clause-crash g c =
    λ r may. inl (leaves_now g.M.MetaDisk.seen g.M.MetaDisk.may_leave g.M.MetaDisk.moment g.M.MetaDisk.left_since c.args.calls.now c.loop-done.done c.args.self.now c.loop-done.self c.loop-done.invariant.going r may
    ∙ ap (stands (found g.M.MetaDisk.seen c.args.self.now)) (whole g.M.MetaDisk.seen g.M.MetaDisk.may_leave g.M.MetaDisk.moment g.M.MetaDisk.left_since c.args.calls.now c.loop-done.done c.args.self.now c.loop-done.self c.loop-done.invariant.going (length c.args.calls.now) c.loop-done-test.false (omega arith)))

pub returns-clause-any_moment : goal.returns-clause-any_moment
returns-clause-any_moment g c =
    subst (λ (z : List Call). LeavesOnly g.M.MetaDisk.moment g.M.MetaDisk.left_since c.args.self.now.disk c.loop-done.self.disk (LeavesFront (found g.M.MetaDisk.seen c.args.self.now) z))
    (whole g.M.MetaDisk.seen g.M.MetaDisk.may_leave g.M.MetaDisk.moment g.M.MetaDisk.left_since c.args.calls.now c.loop-done.done c.args.self.now c.loop-done.self c.loop-done.invariant.going (length c.args.calls.now + 1) c.loop-done-test.false (omega arith)) c.loop-done.invariant.going.moments

pub returns-in-Err-clause-calls : goal.returns-in-Err-clause-calls
returns-in-Err-clause-calls g c =
    refused_holds _ (c.make.new.self ≡ c.loop-done.self) c.in-Err.error c.in-Err.ensures.refused
    (λ same. ap (λ (m : Meta g.row.M.Denot). g.M.MetaDisk.calls m.disk) same ∙ c.loop-done.invariant.calls)

pub returns-in-Err-clause-quiet : goal.returns-in-Err-clause-quiet
returns-in-Err-clause-quiet g c =
    refused_holds _ (c.make.new.self ≡ c.loop-done.self) c.in-Err.error c.in-Err.ensures.refused
    (λ same. ap (λ (m : Meta g.row.M.Denot). g.M.MetaDisk.fault_count m.disk) same ∙ c.loop-done.invariant.quiet)

pub returns-in-Err-clause-size : goal.returns-in-Err-clause-size
returns-in-Err-clause-size g c = c.make.ensures.treats.size ∙ c.loop-done.invariant.size

pub returns-clause-calls : goal.returns-clause-calls
returns-clause-calls g c =
    c.loop-done.invariant.calls
    ∙ ap (λ (z : List Call). more_calls (sum_by disk_calls z) (g.M.MetaDisk.calls c.args.self.now.disk))
    (whole g.M.MetaDisk.seen g.M.MetaDisk.may_leave g.M.MetaDisk.moment g.M.MetaDisk.left_since c.args.calls.now c.loop-done.done c.args.self.now c.loop-done.self c.loop-done.invariant.going (length c.args.calls.now) c.loop-done-test.false (omega arith))

pub returns-in-Err-clause-full : goal.returns-in-Err-clause-full
returns-in-Err-clause-full g c is =
    subst (λ (z : List Call). OfFirst (λ (call : Call). HasNoRoom g.M.MetaDisk.seen call c.make.new.self) z) (sym (split g.M.MetaDisk.seen g.M.MetaDisk.may_leave g.M.MetaDisk.moment g.M.MetaDisk.left_since c.args.calls.now c.loop-done.done c.args.self.now c.loop-done.self c.loop-done.invariant.going c.index-calls-done.result c.index-calls-done.is c.loop-done-test.true))
    (full_same g.M.MetaDisk.seen c.index-calls-done.result c.loop-done.self c.make.new.self c.in-Err.error c.in-Err.ensures.refused is (c.in-Err.ensures.full is))

pub returns-in-Err-clause-no_memory : goal.returns-in-Err-clause-no_memory
returns-in-Err-clause-no_memory g c is =
    subst (OfFirst TakesMemory) (sym (split g.M.MetaDisk.seen g.M.MetaDisk.may_leave g.M.MetaDisk.moment g.M.MetaDisk.left_since c.args.calls.now c.loop-done.done c.args.self.now c.loop-done.self c.loop-done.invariant.going c.index-calls-done.result c.index-calls-done.is c.loop-done-test.true))
    (c.in-Err.ensures.no_memory is)

pub returns-in-Err-clause-stopped : goal.returns-in-Err-clause-stopped
returns-in-Err-clause-stopped g c is =
    let before = more_calls (sum_by disk_calls (take c.loop-done.done c.args.calls.now)) (g.M.MetaDisk.calls c.args.self.now.disk) in
    subst (OfFirst (λ (call : Call). IsStopped (disk_calls call) before (g.M.MetaDisk.calls c.make.new.self.disk)))
    (sym (split g.M.MetaDisk.seen g.M.MetaDisk.may_leave g.M.MetaDisk.moment g.M.MetaDisk.left_since c.args.calls.now c.loop-done.done c.args.self.now c.loop-done.self c.loop-done.invariant.going c.index-calls-done.result c.index-calls-done.is c.loop-done-test.true))
    (subst (λ (n : ℕ). IsStopped (disk_calls c.index-calls-done.result) n (g.M.MetaDisk.calls c.make.new.self.disk)) c.loop-done.invariant.calls
    (subst (λ (n : ℕ). IsStopped n (g.M.MetaDisk.calls c.loop-done.self.disk) (g.M.MetaDisk.calls c.make.new.self.disk)) (calls_counted g.M.MetaDisk.seen c.index-calls-done.result c.loop-done.self) (c.in-Err.ensures.treats.asks.stopped is)))
