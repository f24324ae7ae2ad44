use Rattle.fc_meta.proofs.Calls.{turn_room, turn_run, turn_found, turn_rests}
use Rattle.std.proofs.Common.{ℕ, [], ◌∷◌, ap, ◌∙◌, subst}
use Rattle.std.proofs.lemmas.Result.{err_from_is_err_and}
use Rattle.fc_metadisk.specs.Calls.{all_made, AreCutShort}
use Rattle.fc_format.specs.declared.half.Half.{Half}
use Rattle.fc_format.specs.Halves.{half_start}
use Rattle.fc_meta.specs.declared.series.Call.TheVariants.{Turn}
use Rattle.fc_meta.specs.DiskCalls.{write_and_sync, turn_calls}
use Rattle.fc_meta.specs.States.{head_of, head_turned}
use Rattle.fc_meta.proofs.Places.{behind_none}
use Rattle.fc_meta.proofs.Asked.{asks_all, asks_some}
use Rattle.fc_meta.proofs.Promised.{is_made, has_failed}
use Rattle.fc_meta.proofs.meta.Meta.turn.Goals as goal

pub write_synced-requires : goal.write_synced-requires
write_synced-requires g c = turn_room g.M.MetaDisk.seen g.M.MetaDisk.may_leave g.M.MetaDisk.moment g.M.MetaDisk.left_since g.met.M.MetaDisk.only_now c.args.self.now c.requires c.other-half.result c.other-half.ensures

pub returns-in_err-write_synced : goal.returns-in_err-write_synced
returns-in_err-write_synced g c =
    let p = err_from_is_err_and c.from_residual.result c.from_residual.ensures.1 in
    let at = behind_none (half_start c.other-half.result (g.M.MetaDisk.seen c.args.self.now.disk)) ∙ ap (λ (h : Half). half_start h (g.M.MetaDisk.seen c.args.self.now.disk)) c.other-half.ensures in
    rw (p.1, p.2) (has_failed g.M.MetaDisk.seen g.M.MetaDisk.moment g.M.MetaDisk.left_since g.M.MetaDisk.fault_count g.M.MetaDisk.calls g.M.MetaDisk.leads g.M.MetaDisk.may_leave Turn c.args.self.now (λ none. none) _ (record {
      size = c.write_synced.ensures.size;
      any_moment = turn_run g.M.MetaDisk.seen g.M.MetaDisk.may_leave g.M.MetaDisk.moment g.M.MetaDisk.left_since g.met.M.MetaDisk.only_now c.args.self.now c.requires c.other-half.result c.other-half.ensures c.write_synced.new.disk c.write_synced.ensures.any_moment;
      asks = asks_some g.M.MetaDisk.fault_count g.M.MetaDisk.calls g.M.MetaDisk.leads (turn_calls g.M.MetaDisk.seen c.args.self.now) c.args.self.now.disk c.write_synced.new.disk
          (subst (λ (n : ℕ). AreCutShort (λ made. g.M.MetaDisk.leads c.args.self.now.disk made c.write_synced.new.disk) (write_and_sync n (1 ∷ []))) at c.in_err-write_synced.ensures.cut_short)
          c.in_err-write_synced.ensures.stopped c.in_err-write_synced.ensures.cause.cause;
    }))

pub returns : goal.returns
returns g c =
    let at = behind_none (half_start c.other-half.result (g.M.MetaDisk.seen c.args.self.now.disk)) ∙ ap (λ (h : Half). half_start h (g.M.MetaDisk.seen c.args.self.now.disk)) c.other-half.ensures in
    is_made g.M.MetaDisk.seen g.M.MetaDisk.moment g.M.MetaDisk.left_since g.M.MetaDisk.fault_count g.M.MetaDisk.calls g.M.MetaDisk.leads g.M.MetaDisk.may_leave Turn c.args.self.now _ _ (λ none. none) (
      turn_rests g.M.MetaDisk.seen g.M.MetaDisk.may_leave g.M.MetaDisk.moment g.M.MetaDisk.left_since g.met.M.MetaDisk.only_now c.args.self.now c.requires c.other-half.result c.other-half.ensures c.write_synced.new.disk c.in_ok-write_synced.ensures.bytes c.in_ok-write_synced.ensures.durable,
      turn_found g.M.MetaDisk.seen g.M.MetaDisk.may_leave g.M.MetaDisk.moment g.M.MetaDisk.left_since g.met.M.MetaDisk.only_now c.args.self.now c.requires c.other-half.result c.other-half.ensures c.write_synced.new.disk c.in_ok-write_synced.ensures.bytes,
    )
    (ap (λ (h : Half). record (head_turned c.args.self.now.next (head_of c.args.self.now)) { half = h }) c.other-half.ensures)
    (record {
      size = c.write_synced.ensures.size;
      any_moment = turn_run g.M.MetaDisk.seen g.M.MetaDisk.may_leave g.M.MetaDisk.moment g.M.MetaDisk.left_since g.met.M.MetaDisk.only_now c.args.self.now c.requires c.other-half.result c.other-half.ensures c.write_synced.new.disk c.write_synced.ensures.any_moment;
      asks = asks_all g.M.MetaDisk.fault_count g.M.MetaDisk.calls g.M.MetaDisk.leads (turn_calls g.M.MetaDisk.seen c.args.self.now) c.args.self.now.disk c.write_synced.new.disk _
          (subst (λ (n : ℕ). g.M.MetaDisk.leads c.args.self.now.disk (all_made (write_and_sync n (1 ∷ []))) c.write_synced.new.disk) at c.in_ok-write_synced.ensures.done)
          c.in_ok-write_synced.ensures.made c.in_ok-write_synced.ensures.cause.quiet;
    })
