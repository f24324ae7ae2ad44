use Rattle.std.proofs.Common.{ℕ, ◌+◌, inl, inr, List, [], ◌∷◌, length, refl, ap, ◌∙◌, subst}
use Rattle.std.proofs.lemmas.Result.{err_from_is_err_and}
use Rattle.std.specs.Prelude.{Ok, Err}
use Rattle.fc_metadisk.specs.Calls.{Syncs, all_made, AreCutShort}
use Rattle.fc_format.specs.Halves.{half_start}
use Rattle.fc_meta.specs.declared.series.Call.TheVariants.{Sync}
use Rattle.fc_meta.specs.declared.error.MetaError.TheVariants.{Failed}
use Rattle.fc_meta.specs.States.{start_now}
use Rattle.fc_meta.specs.DiskCalls.{write_and_sync, sync_calls}
use Rattle.fc_meta.proofs.Calls.{sync_room, sync_first, sync_run, sync_found, sync_rests}
use Rattle.fc_meta.proofs.Asked.{asks_all, asks_some, asks_both}
use Rattle.fc_meta.proofs.Promised.{is_made, has_failed}
use Rattle.fc_meta.proofs.meta.Meta.sync.Goals as goal

pub returns-in_err-sync : goal.returns-in_err-sync
returns-in_err-sync g c =
    let p = err_from_is_err_and c.from_residual.result c.from_residual.ensures.1 in
    rw (p.1, p.2) (has_failed g.M.MetaDisk.seen g.M.MetaDisk.moment g.M.MetaDisk.left_since g.M.MetaDisk.fault_count g.M.MetaDisk.calls g.M.MetaDisk.leads g.M.MetaDisk.may_leave Sync c.args.self.now (λ none. none) _ (record {
      size = ap (λ (z : List ℕ). length z) c.sync.ensures.seen;
      any_moment = sync_first g.M.MetaDisk.seen g.M.MetaDisk.may_leave g.M.MetaDisk.moment g.M.MetaDisk.left_since g.met.M.MetaDisk.only_now c.args.self.now c.requires c.sync.new.self c.sync.ensures.crash c.sync.ensures.time;
      asks = asks_some g.M.MetaDisk.fault_count g.M.MetaDisk.calls g.M.MetaDisk.leads (sync_calls g.M.MetaDisk.seen c.args.self.now) c.args.self.now.disk c.sync.new.self
          (inl c.in_err-sync.ensures.made) (inr (inr (inl c.sync.ensures.calls))) c.in_err-sync.ensures.cause.cause;
    }))

pub write_synced-requires : goal.write_synced-requires
write_synced-requires g c = sync_room g.M.MetaDisk.seen g.M.MetaDisk.may_leave g.M.MetaDisk.moment g.M.MetaDisk.left_since g.met.M.MetaDisk.only_now c.args.self.now c.requires c.sync.new.self c.sync.ensures.seen

pub returns-in_err-write_synced : goal.returns-in_err-write_synced
returns-in_err-write_synced g c =
    let p = err_from_is_err_and c.from_residual-in_err-write_synced.result c.from_residual-in_err-write_synced.ensures.1 in
    rw (p.1, p.2) (has_failed g.M.MetaDisk.seen g.M.MetaDisk.moment g.M.MetaDisk.left_since g.M.MetaDisk.fault_count g.M.MetaDisk.calls g.M.MetaDisk.leads g.M.MetaDisk.may_leave Sync c.args.self.now (λ none. none) _ (record {
      size = c.write_synced.ensures.size ∙ ap (λ (z : List ℕ). length z) c.sync.ensures.seen;
      any_moment = sync_run g.M.MetaDisk.seen g.M.MetaDisk.may_leave g.M.MetaDisk.moment g.M.MetaDisk.left_since g.met.M.MetaDisk.only_now c.args.self.now c.requires c.sync.new.self c.write_synced.new.disk c.sync.ensures.crash c.sync.ensures.time c.sync.ensures.seen c.in_ok-sync.ensures.durable c.write_synced.ensures.any_moment;
      asks = asks_both g.M.MetaDisk.fault_count g.M.MetaDisk.calls g.M.MetaDisk.leads (Syncs ∷ []) (write_and_sync (start_now g.M.MetaDisk.seen c.args.self.now + c.args.self.now.used) (1 ∷ [])) c.args.self.now.disk c.sync.new.self g.met.M.MetaDisk.leads_on (tt {0}) c.write_synced.new.disk (Err Failed)
          (asks_all g.M.MetaDisk.fault_count g.M.MetaDisk.calls g.M.MetaDisk.leads (Syncs ∷ []) c.args.self.now.disk c.sync.new.self (tt {0}) c.in_ok-sync.ensures.made c.sync.ensures.calls c.in_ok-sync.ensures.cause.quiet)
          (asks_some g.M.MetaDisk.fault_count g.M.MetaDisk.calls g.M.MetaDisk.leads (write_and_sync (start_now g.M.MetaDisk.seen c.args.self.now + c.args.self.now.used) (1 ∷ [])) c.sync.new.self c.write_synced.new.disk
          (subst (λ (z : List ℕ). AreCutShort (λ made. g.M.MetaDisk.leads c.sync.new.self made c.write_synced.new.disk) (write_and_sync (half_start c.args.self.now.half z + c.args.self.now.used) (1 ∷ []))) c.sync.ensures.seen c.in_err-write_synced.ensures.cut_short)
          c.in_err-write_synced.ensures.stopped c.in_err-write_synced.ensures.cause.cause);
    }))

pub returns : goal.returns
returns g c =
    is_made g.M.MetaDisk.seen g.M.MetaDisk.moment g.M.MetaDisk.left_since g.M.MetaDisk.fault_count g.M.MetaDisk.calls g.M.MetaDisk.leads g.M.MetaDisk.may_leave Sync c.args.self.now _ _ (λ none. none) (
      sync_rests g.M.MetaDisk.seen g.M.MetaDisk.may_leave g.M.MetaDisk.moment g.M.MetaDisk.left_since g.met.M.MetaDisk.only_now c.args.self.now c.requires c.sync.new.self c.write_synced.new.disk c.sync.ensures.seen c.in_ok-write_synced.ensures.bytes c.in_ok-write_synced.ensures.durable,
      sync_found g.M.MetaDisk.seen g.M.MetaDisk.may_leave g.M.MetaDisk.moment g.M.MetaDisk.left_since g.met.M.MetaDisk.only_now c.args.self.now c.requires c.sync.new.self c.write_synced.new.disk c.sync.ensures.seen c.in_ok-write_synced.ensures.bytes,
    )
    refl
    (record {
      size = c.write_synced.ensures.size ∙ ap (λ (z : List ℕ). length z) c.sync.ensures.seen;
      any_moment = sync_run g.M.MetaDisk.seen g.M.MetaDisk.may_leave g.M.MetaDisk.moment g.M.MetaDisk.left_since g.met.M.MetaDisk.only_now c.args.self.now c.requires c.sync.new.self c.write_synced.new.disk c.sync.ensures.crash c.sync.ensures.time c.sync.ensures.seen c.in_ok-sync.ensures.durable c.write_synced.ensures.any_moment;
      asks = asks_both g.M.MetaDisk.fault_count g.M.MetaDisk.calls g.M.MetaDisk.leads (Syncs ∷ []) (write_and_sync (start_now g.M.MetaDisk.seen c.args.self.now + c.args.self.now.used) (1 ∷ [])) c.args.self.now.disk c.sync.new.self g.met.M.MetaDisk.leads_on (tt {0}) c.write_synced.new.disk (Ok _)
          (asks_all g.M.MetaDisk.fault_count g.M.MetaDisk.calls g.M.MetaDisk.leads (Syncs ∷ []) c.args.self.now.disk c.sync.new.self (tt {0}) c.in_ok-sync.ensures.made c.sync.ensures.calls c.in_ok-sync.ensures.cause.quiet)
          (asks_all g.M.MetaDisk.fault_count g.M.MetaDisk.calls g.M.MetaDisk.leads (write_and_sync (start_now g.M.MetaDisk.seen c.args.self.now + c.args.self.now.used) (1 ∷ [])) c.sync.new.self c.write_synced.new.disk _
          (subst (λ (z : List ℕ). g.M.MetaDisk.leads c.sync.new.self (all_made (write_and_sync (half_start c.args.self.now.half z + c.args.self.now.used) (1 ∷ []))) c.write_synced.new.disk) c.sync.ensures.seen c.in_ok-write_synced.ensures.done)
          c.in_ok-write_synced.ensures.made c.in_ok-write_synced.ensures.cause.quiet);
    })
