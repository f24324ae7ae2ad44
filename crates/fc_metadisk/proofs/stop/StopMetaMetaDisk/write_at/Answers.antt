use Rattle.std.proofs.Common.{◌≡◌, List, ℕ, length, refl, sym, ap, ◌∙◌, subst, inl, inr, ⊎_elim}
use Rattle.std.specs.Prelude.{true, is_err}
use Rattle.fc_metadisk.specs.Disk.{Torn, bytes_put}
use Rattle.fc_metadisk.specs.Stop.{StopState, StopLeaves, has_stopped}
use Rattle.fc_metadisk.proofs.Rows.{torn_none, torn_put}
use Rattle.fc_metadisk.proofs.Stopping.{still_stopped, on_ok_failed}
use Rattle.fc_metadisk.proofs.stop.StopMetaMetaDisk.write_at.Goals as goal

pub returns-then-has_stopped-clause-done : goal.returns-then-has_stopped-clause-done
returns-then-has_stopped-clause-done c =
    let was : has_stopped c.args.self.now ≡ true = sym c.has_stopped.ensures.stopped ∙ c.if-has_stopped.true in
    let e : is_err c.count_call.result ≡ true =
    c.count_call.ensures.told ∙ (ap has_stopped c.count_call.ensures.disk ∙ still_stopped c.args.self.now.stop c.args.self.now.calls c.has_stopped.ensures.small was) in
    on_ok_failed c.count_call.result _ e

pub returns-then-has_stopped-clause-crash : goal.returns-then-has_stopped-clause-crash
returns-then-has_stopped-clause-crash c row leaves =
    let was : StopLeaves c.args.self.now row =
    ⊎_elim (λ e. inl (e ∙ ap (λ (d : StopState). d.bytes) c.count_call.ensures.disk)) (λ e. inr (e ∙ ap (λ (d : StopState). d.synced) c.count_call.ensures.disk)) leaves in
    (row, was, torn_none c.args.at (length c.args.bytes.now) row)

pub returns-clause-torn : goal.returns-clause-torn
returns-clause-torn c =
    let e : c.count_call-2.new.self.bytes ≡ bytes_put c.args.at c.args.bytes.now c.args.self.now.bytes =
    ap (λ (d : StopState). d.bytes) c.count_call-2.ensures.disk ∙ ap (λ (d : StopState). d.bytes) c.put.ensures in
    subst (λ (z : List ℕ). Torn c.args.at (length c.args.bytes.now) c.args.self.now.bytes z) (sym e) (torn_put c.args.at c.args.bytes.now c.args.self.now.bytes c.requires)

pub returns-clause-crash : goal.returns-clause-crash
returns-clause-crash c row leaves =
    let bytes : c.count_call-2.new.self.bytes ≡ bytes_put c.args.at c.args.bytes.now c.args.self.now.bytes =
    ap (λ (d : StopState). d.bytes) c.count_call-2.ensures.disk ∙ ap (λ (d : StopState). d.bytes) c.put.ensures in
    let synced : c.count_call-2.new.self.synced ≡ c.args.self.now.synced =
    ap (λ (d : StopState). d.synced) c.count_call-2.ensures.disk ∙ ap (λ (d : StopState). d.synced) c.put.ensures in
    ⊎_elim
    (λ e. (c.args.self.now.bytes, inl refl, subst (λ (z : List ℕ). Torn c.args.at (length c.args.bytes.now) c.args.self.now.bytes z) (sym (e ∙ bytes)) (torn_put c.args.at c.args.bytes.now c.args.self.now.bytes c.requires)))
    (λ e. (row, inr (e ∙ synced), torn_none c.args.at (length c.args.bytes.now) row))
    leaves
