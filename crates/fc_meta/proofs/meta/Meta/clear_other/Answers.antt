use Rattle.std.proofs.Common.{◌≡◌, ℕ, true, false, [], ◌∷◌, length, take, refl, sym, ap, ◌∙◌, arith, length-take}
use Rattle.std.proofs.lemmas.Result.{err_from_is_err_and}
use Rattle.fc_metadisk.specs.Calls.{all_made, AreCutShort}
use Rattle.fc_format.specs.declared.half.Half.{Half}
use Rattle.fc_format.specs.Halves.{half_start}
use Rattle.fc_meta.specs.declared.series.Call.TheVariants.{ClearOther}
use Rattle.fc_meta.specs.States.{found}
use Rattle.fc_meta.specs.DiskCalls.{write_and_sync, clear_calls}
use Rattle.fc_meta.proofs.Crash.{rests_found}
use Rattle.fc_meta.proofs.Calls.{clear_run, clear_rests, small_room}
use Rattle.fc_meta.proofs.Moments.{stays}
use Rattle.fc_meta.proofs.Places.{same_write, closed_by, behind_none}
use Rattle.fc_meta.proofs.Asked.{asks_all, asks_some}
use Rattle.fc_meta.proofs.Promised.{is_made, has_failed}
use Rattle.fc_meta.proofs.meta.Meta.clear_other.Goals as goal

pub write_synced-requires : goal.write_synced-requires
write_synced-requires g c =
    let r = small_room g.M.MetaDisk.seen g.M.MetaDisk.may_leave g.M.MetaDisk.moment g.M.MetaDisk.left_since g.met.M.MetaDisk.only_now c.args.self.now c.requires c.other.result c.other.ensures in
    let l = length-take {A = ℕ} c.from-count.result (0 ∷ []) in
    omega (arith, r, l)

pub returns-in_err-write_synced : goal.returns-in_err-write_synced
returns-in_err-write_synced g c =
    let p = err_from_is_err_and c.from_residual.result c.from_residual.ensures.1 in
    let one : c.args.self.now.other_is_open ≡ true → c.from-count.result ≡ 1 = λ wide. rw wide at c.from-count.ensures in
    let none : c.args.self.now.other_is_open ≡ false → c.from-count.result ≡ 0 = λ shut. rw shut at c.from-count.ensures in
    let at = behind_none (half_start c.other.result (g.M.MetaDisk.seen c.args.self.now.disk)) ∙ ap (λ (h : Half). half_start h (g.M.MetaDisk.seen c.args.self.now.disk)) c.other.ensures in
    rw (p.1, p.2) (has_failed g.M.MetaDisk.seen g.M.MetaDisk.moment g.M.MetaDisk.left_since g.M.MetaDisk.fault_count g.M.MetaDisk.calls g.M.MetaDisk.leads g.M.MetaDisk.may_leave ClearOther c.args.self.now (λ none. none) _ (record {
      size = c.write_synced.ensures.size;
      any_moment = stays g.M.MetaDisk.moment g.M.MetaDisk.left_since c.args.self.now.disk c.write_synced.new.disk (found g.M.MetaDisk.seen c.args.self.now) (found g.M.MetaDisk.seen c.args.self.now)
          (clear_run g.M.MetaDisk.seen g.M.MetaDisk.may_leave g.M.MetaDisk.moment g.M.MetaDisk.left_since g.met.M.MetaDisk.only_now c.args.self.now c.requires c.other.result c.other.ensures c.write_synced.new.disk (length {A = ℕ} (take c.from-count.result (0 ∷ []))) (λ wide. ap (λ (n : ℕ). length {A = ℕ} (take n (0 ∷ []))) (one wide)) (λ shut. ap (λ (n : ℕ). length {A = ℕ} (take n (0 ∷ []))) (none shut))
          c.write_synced.ensures.any_moment);
      asks = asks_some g.M.MetaDisk.fault_count g.M.MetaDisk.calls g.M.MetaDisk.leads (clear_calls g.M.MetaDisk.seen c.args.self.now) c.args.self.now.disk c.write_synced.new.disk
          (same_write (λ n b. AreCutShort (λ made. g.M.MetaDisk.leads c.args.self.now.disk made c.write_synced.new.disk) (write_and_sync n b)) _ _ _ _ at (closed_by c.args.self.now.other_is_open c.from-count.result one none) c.in_err-write_synced.ensures.cut_short)
          c.in_err-write_synced.ensures.stopped c.in_err-write_synced.ensures.cause.cause;
    }))

pub returns : goal.returns
returns g c =
    let one : c.args.self.now.other_is_open ≡ true → c.from-count.result ≡ 1 = λ wide. rw wide at c.from-count.ensures in
    let none : c.args.self.now.other_is_open ≡ false → c.from-count.result ≡ 0 = λ shut. rw shut at c.from-count.ensures in
    let rests = clear_rests g.M.MetaDisk.seen g.M.MetaDisk.may_leave g.M.MetaDisk.moment g.M.MetaDisk.left_since g.met.M.MetaDisk.only_now c.args.self.now c.requires c.other.result c.other.ensures c.write_synced.new.disk (take c.from-count.result (0 ∷ [])) (λ wide. ap (λ (n : ℕ). take n (0 ∷ [])) (one wide)) (λ shut. ap (λ (n : ℕ). take n (0 ∷ [])) (none shut)) c.in_ok-write_synced.ensures.bytes in
    let at = behind_none (half_start c.other.result (g.M.MetaDisk.seen c.args.self.now.disk)) ∙ ap (λ (h : Half). half_start h (g.M.MetaDisk.seen c.args.self.now.disk)) c.other.ensures in
    is_made g.M.MetaDisk.seen g.M.MetaDisk.moment g.M.MetaDisk.left_since g.M.MetaDisk.fault_count g.M.MetaDisk.calls g.M.MetaDisk.leads g.M.MetaDisk.may_leave ClearOther c.args.self.now _ _ (λ none. none) (
      record { image = c.requires.image; shut = refl; rests = rests; durable = c.in_ok-write_synced.ensures.durable },
      rests_found _ _ _ _ _ (g.M.MetaDisk.seen c.write_synced.new.disk) rests ∙ sym (rests_found _ _ _ _ _ (g.M.MetaDisk.seen c.args.self.now.disk) c.requires.rests),
    )
    refl
    (record {
      size = c.write_synced.ensures.size;
      any_moment = stays g.M.MetaDisk.moment g.M.MetaDisk.left_since c.args.self.now.disk c.write_synced.new.disk (found g.M.MetaDisk.seen c.args.self.now) (found g.M.MetaDisk.seen c.args.self.now)
          (clear_run g.M.MetaDisk.seen g.M.MetaDisk.may_leave g.M.MetaDisk.moment g.M.MetaDisk.left_since g.met.M.MetaDisk.only_now c.args.self.now c.requires c.other.result c.other.ensures c.write_synced.new.disk (length {A = ℕ} (take c.from-count.result (0 ∷ []))) (λ wide. ap (λ (n : ℕ). length {A = ℕ} (take n (0 ∷ []))) (one wide)) (λ shut. ap (λ (n : ℕ). length {A = ℕ} (take n (0 ∷ []))) (none shut))
          c.write_synced.ensures.any_moment);
      asks = asks_all g.M.MetaDisk.fault_count g.M.MetaDisk.calls g.M.MetaDisk.leads (clear_calls g.M.MetaDisk.seen c.args.self.now) c.args.self.now.disk c.write_synced.new.disk _
          (same_write (λ n b. g.M.MetaDisk.leads c.args.self.now.disk (all_made (write_and_sync n b)) c.write_synced.new.disk) _ _ _ _ at (closed_by c.args.self.now.other_is_open c.from-count.result one none) c.in_ok-write_synced.ensures.done)
          c.in_ok-write_synced.ensures.made c.in_ok-write_synced.ensures.cause.quiet;
    })
