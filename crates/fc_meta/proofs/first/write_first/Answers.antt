use Rattle.std.proofs.Common.{◌≡◌, ℕ, List, [], ◌∷◌, subst, sym, ◌∙◌}
use Rattle.fc_format.specs.Bytes.{half_bytes}
use Rattle.fc_meta.proofs.Inside.{behind_gate}
use Rattle.fc_meta.proofs.Opening.{blank, first_run, whole_run, opened_rests}
use Rattle.fc_metadisk.specs.Calls.{all_made, AreCutShort}
use Rattle.fc_metadisk.proofs.Told.{all_behind, cut_after, cut_before}
use Rattle.fc_meta.specs.DiskCalls.{write_and_sync}
use Rattle.fc_meta.proofs.first.write_first.Goals as goal

pub returns-in_err-bytes-clause-any_moment : goal.returns-in_err-bytes-clause-any_moment
returns-in_err-bytes-clause-any_moment g c = blank g.M.MetaDisk.seen g.M.MetaDisk.may_leave g.M.MetaDisk.moment g.M.MetaDisk.left_since g.met.M.MetaDisk.only_now c.args.disk.now c.args.image.now c.requires.zeros c.requires.synced

pub returns-then-half_len-len-clause-any_moment : goal.returns-then-half_len-len-clause-any_moment
returns-then-half_len-len-clause-any_moment g c = blank g.M.MetaDisk.seen g.M.MetaDisk.may_leave g.M.MetaDisk.moment g.M.MetaDisk.left_since g.met.M.MetaDisk.only_now c.args.disk.now c.args.image.now c.requires.zeros c.requires.synced

pub returns-in_err-write_synced-clause-any_moment : goal.returns-in_err-write_synced-clause-any_moment
returns-in_err-write_synced-clause-any_moment g c =
    let w = behind_gate c.deref.ensures.value c.in_ok-bytes.ensures.bytes c.len.ensures c.deref.ensures.len c.half_len.ensures.value c.if-half_len-len.false in
    first_run g.M.MetaDisk.seen g.M.MetaDisk.may_leave g.M.MetaDisk.moment g.M.MetaDisk.left_since g.met.M.MetaDisk.only_now c.args.disk.now c.args.image.now c.requires.zeros c.requires.synced c.deref.result.now w.is w.inside c.write_synced.new.disk c.write_synced.ensures.any_moment

pub returns-in_err-write_synced-2-clause-any_moment : goal.returns-in_err-write_synced-2-clause-any_moment
returns-in_err-write_synced-2-clause-any_moment g c =
    let w = behind_gate c.deref.ensures.value c.in_ok-bytes.ensures.bytes c.len.ensures c.deref.ensures.len c.half_len.ensures.value c.if-half_len-len.false in
    whole_run g.M.MetaDisk.seen g.M.MetaDisk.may_leave g.M.MetaDisk.moment g.M.MetaDisk.left_since g.met.M.MetaDisk.only_now c.args.disk.now c.args.image.now c.requires.zeros c.requires.synced c.deref.result.now w.is w.inside c.in_ok-bytes.ensures.typed c.requires.ids c.half_len.ensures.small c.write_synced.new.disk c.in_ok-write_synced.ensures.bytes c.write_synced-2.new.disk c.write_synced.ensures.any_moment c.in_ok-write_synced.ensures.durable c.write_synced-2.ensures.any_moment

pub returns-clause-any_moment : goal.returns-clause-any_moment
returns-clause-any_moment g c =
    let w = behind_gate c.deref.ensures.value c.in_ok-bytes.ensures.bytes c.len.ensures c.deref.ensures.len c.half_len.ensures.value c.if-half_len-len.false in
    whole_run g.M.MetaDisk.seen g.M.MetaDisk.may_leave g.M.MetaDisk.moment g.M.MetaDisk.left_since g.met.M.MetaDisk.only_now c.args.disk.now c.args.image.now c.requires.zeros c.requires.synced c.deref.result.now w.is w.inside c.in_ok-bytes.ensures.typed c.requires.ids c.half_len.ensures.small c.write_synced.new.disk c.in_ok-write_synced.ensures.bytes c.write_synced-2.new.disk c.write_synced.ensures.any_moment c.in_ok-write_synced.ensures.durable c.write_synced-2.ensures.any_moment

pub returns-clause-rests : goal.returns-clause-rests
returns-clause-rests g c =
    let w = behind_gate c.deref.ensures.value c.in_ok-bytes.ensures.bytes c.len.ensures c.deref.ensures.len c.half_len.ensures.value c.if-half_len-len.false in
    opened_rests g.M.MetaDisk.seen g.M.MetaDisk.may_leave g.M.MetaDisk.moment g.M.MetaDisk.left_since g.met.M.MetaDisk.only_now c.args.disk.now c.args.image.now c.requires.zeros c.requires.synced c.deref.result.now w.is w.inside c.in_ok-bytes.ensures.typed c.requires.ids c.half_len.ensures.small c.write_synced.new.disk c.in_ok-write_synced.ensures.bytes c.write_synced-2.new.disk c.len-2.result c.in_ok-write_synced-2.ensures.bytes (c.len-2.ensures ∙ sym c.deref.ensures.len)

pub returns-in_err-write_synced-clause-cut_short : goal.returns-in_err-write_synced-clause-cut_short
returns-in_err-write_synced-clause-cut_short g c told =
    let is : c.deref.result.now ≡ half_bytes 1 c.args.image.now = c.deref.ensures.value ∙ c.in_ok-bytes.ensures.bytes in
    cut_before (λ made. g.M.MetaDisk.leads c.args.disk.now made c.write_synced.new.disk) (write_and_sync 1 (half_bytes 1 c.args.image.now)) (write_and_sync 0 (1 ∷ []))
    (subst (λ (b : List ℕ). AreCutShort (λ made. g.M.MetaDisk.leads c.args.disk.now made c.write_synced.new.disk) (write_and_sync 1 b)) is c.in_err-write_synced.ensures.cut_short)

pub returns-in_err-write_synced-2-clause-cut_short : goal.returns-in_err-write_synced-2-clause-cut_short
returns-in_err-write_synced-2-clause-cut_short g c told =
    let is : c.deref.result.now ≡ half_bytes 1 c.args.image.now = c.deref.ensures.value ∙ c.in_ok-bytes.ensures.bytes in
    cut_after g.M.MetaDisk.leads g.met.M.MetaDisk.leads_on c.args.disk.now c.write_synced.new.disk c.write_synced-2.new.disk (write_and_sync 1 (half_bytes 1 c.args.image.now)) (write_and_sync 0 (1 ∷ []))
    (subst (λ (b : List ℕ). g.M.MetaDisk.leads c.args.disk.now (all_made (write_and_sync 1 b)) c.write_synced.new.disk) is c.in_ok-write_synced.ensures.done) c.in_err-write_synced-2.ensures.cut_short

pub returns-clause-done : goal.returns-clause-done
returns-clause-done g c =
    let is : c.deref.result.now ≡ half_bytes 1 c.args.image.now = c.deref.ensures.value ∙ c.in_ok-bytes.ensures.bytes in
    all_behind g.M.MetaDisk.leads g.met.M.MetaDisk.leads_on c.args.disk.now c.write_synced.new.disk c.write_synced-2.new.disk (write_and_sync 1 (half_bytes 1 c.args.image.now)) (write_and_sync 0 (1 ∷ []))
    (subst (λ (b : List ℕ). g.M.MetaDisk.leads c.args.disk.now (all_made (write_and_sync 1 b)) c.write_synced.new.disk) is c.in_ok-write_synced.ensures.done) c.in_ok-write_synced-2.ensures.done
