use Rattle.std.proofs.Common.{◌≡◌, inl, inr, ℕ, ◌+◌, ◌^◌, ◌<◌, ◌≤◌, Bool, List, length, sym, ap, ◌∙◌, arith}
use Rattle.std.proofs.lemmas.Bool.Decides.{nat_tests}
use Rattle.std.proofs.lemmas.Result.{err_from_is_err_and}
use Rattle.fc_image.specs.declared.image.MetaImage.{MetaImage}
use Rattle.fc_metadisk.specs.Calls.{all_made, AreCutShort}
use Rattle.fc_format.specs.declared.half.Half.{Half}
use Rattle.fc_format.specs.Bytes.{half_bytes}
use Rattle.fc_format.specs.Halves.{half_start}
use Rattle.fc_meta.specs.declared.series.Call.TheVariants.{FillOther}
use Rattle.fc_meta.specs.Answers.{PassesHalf}
use Rattle.fc_meta.specs.States.{head_of, found}
use Rattle.fc_meta.specs.DiskCalls.{write_and_sync, fill_calls}
use Rattle.fc_meta.proofs.Calls.{still, fill_run, fill_is_filled, fill_found, fill_filled}
use Rattle.fc_meta.proofs.Inside.{behind_gate}
use Rattle.fc_meta.proofs.Moments.{stays}
use Rattle.fc_meta.proofs.Places.{same_write}
use Rattle.fc_meta.proofs.Asked.{asks_all, asks_some}
use Rattle.fc_meta.proofs.Promised.{is_full, wants_memory, is_made, has_failed}
use Rattle.fc_meta.proofs.meta.Meta.fill_other.Goals as goal

-- the bytes fit in the half, and there is a next generation
has_room : (generation : ℕ) (image : MetaImage) (room : ℕ) → generation + 1 < 2 ^ 64 → 1 + length (half_bytes (generation + 1) image) ≤ room → PassesHalf generation image room → ⊥
has_room generation image room low inside (inl last) = omega (arith, low, last)
has_room generation image room low inside (inr past) = omega (arith, inside, past)

pub returns-then-self : goal.returns-then-self
returns-then-self g c =
    is_full g.M.MetaDisk.seen g.M.MetaDisk.moment g.M.MetaDisk.left_since g.M.MetaDisk.fault_count g.M.MetaDisk.calls g.M.MetaDisk.leads g.M.MetaDisk.may_leave (FillOther c.args.image.now) c.args.self.now
    (still g.M.MetaDisk.seen g.M.MetaDisk.may_leave g.M.MetaDisk.moment g.M.MetaDisk.left_since g.met.M.MetaDisk.only_now c.args.self.now c.requires.cleared.durable)
    (inl (let last = c.if-self.true in omega (arith, last)))

pub returns-in_err-bytes : goal.returns-in_err-bytes
returns-in_err-bytes g c =
    let p = err_from_is_err_and c.from_residual.result c.from_residual.ensures.1 in
    rw (p.1, p.2) (wants_memory g.M.MetaDisk.seen g.M.MetaDisk.moment g.M.MetaDisk.left_since g.M.MetaDisk.fault_count g.M.MetaDisk.calls g.M.MetaDisk.leads g.M.MetaDisk.may_leave (FillOther c.args.image.now) c.args.self.now
    (still g.M.MetaDisk.seen g.M.MetaDisk.may_leave g.M.MetaDisk.moment g.M.MetaDisk.left_since g.met.M.MetaDisk.only_now c.args.self.now c.requires.cleared.durable)
    tt)

pub returns-then-half_len-len : goal.returns-then-half_len-len
returns-then-half_len-len g c =
    is_full g.M.MetaDisk.seen g.M.MetaDisk.moment g.M.MetaDisk.left_since g.M.MetaDisk.fault_count g.M.MetaDisk.calls g.M.MetaDisk.leads g.M.MetaDisk.may_leave (FillOther c.args.image.now) c.args.self.now
    (still g.M.MetaDisk.seen g.M.MetaDisk.may_leave g.M.MetaDisk.moment g.M.MetaDisk.left_since g.met.M.MetaDisk.only_now c.args.self.now c.requires.cleared.durable)
    (inr (let is = ap (λ (b : List ℕ). length b) c.in_ok-bytes.ensures.bytes in omega (arith, is, c.len.ensures, c.half_len.ensures.value, c.if-half_len-len.true)))

pub returns-in_err-write_synced : goal.returns-in_err-write_synced
returns-in_err-write_synced g c =
    let p = err_from_is_err_and c.from_residual-in_err-write_synced.result c.from_residual-in_err-write_synced.ensures.1 in
    let w = behind_gate c.deref.ensures.value c.in_ok-bytes.ensures.bytes c.len.ensures c.deref.ensures.len c.half_len.ensures.value c.if-half_len-len.false in
    let is : c.deref.result.now ≡ half_bytes (c.args.self.now.generation + 1) c.args.image.now = c.deref.ensures.value ∙ c.in_ok-bytes.ensures.bytes in
    let at = ap (λ (h : Half). half_start h (g.M.MetaDisk.seen c.args.self.now.disk) + 1) c.other.ensures in
    let low : c.args.self.now.generation + 1 < 2 ^ 64 = grind (arith, nat_tests, c.fits-self, c.if-self.false) in
    rw (p.1, p.2) (has_failed g.M.MetaDisk.seen g.M.MetaDisk.moment g.M.MetaDisk.left_since g.M.MetaDisk.fault_count g.M.MetaDisk.calls g.M.MetaDisk.leads g.M.MetaDisk.may_leave (FillOther c.args.image.now) c.args.self.now (has_room (c.args.self.now.generation) c.args.image.now _ low w.inside) _ (record {
      size = c.write_synced.ensures.size;
      any_moment = stays g.M.MetaDisk.moment g.M.MetaDisk.left_since c.args.self.now.disk c.write_synced.new.disk (found g.M.MetaDisk.seen c.args.self.now) (found g.M.MetaDisk.seen c.args.self.now)
          (fill_run g.M.MetaDisk.seen g.M.MetaDisk.may_leave g.M.MetaDisk.moment g.M.MetaDisk.left_since g.met.M.MetaDisk.only_now c.args.self.now c.requires.cleared c.other.result c.other.ensures c.args.image.now c.deref.result.now w.is w.inside c.write_synced.new.disk c.write_synced.ensures.any_moment);
      asks = asks_some g.M.MetaDisk.fault_count g.M.MetaDisk.calls g.M.MetaDisk.leads (fill_calls g.M.MetaDisk.seen c.args.self.now c.args.image.now) c.args.self.now.disk c.write_synced.new.disk
          (same_write (λ n b. AreCutShort (λ made. g.M.MetaDisk.leads c.args.self.now.disk made c.write_synced.new.disk) (write_and_sync n b)) _ _ _ _ at is c.in_err-write_synced.ensures.cut_short)
          c.in_err-write_synced.ensures.stopped c.in_err-write_synced.ensures.cause.cause;
    }))

pub returns : goal.returns
returns g c =
    let w = behind_gate c.deref.ensures.value c.in_ok-bytes.ensures.bytes c.len.ensures c.deref.ensures.len c.half_len.ensures.value c.if-half_len-len.false in
    let is : c.deref.result.now ≡ half_bytes (c.args.self.now.generation + 1) c.args.image.now = c.deref.ensures.value ∙ c.in_ok-bytes.ensures.bytes in
    let at = ap (λ (h : Half). half_start h (g.M.MetaDisk.seen c.args.self.now.disk) + 1) c.other.ensures in
    let low : c.args.self.now.generation + 1 < 2 ^ 64 = grind (arith, nat_tests, c.fits-self, c.if-self.false) in
    let ends = c.len-2.ensures ∙ sym c.deref.ensures.len in
    is_made g.M.MetaDisk.seen g.M.MetaDisk.moment g.M.MetaDisk.left_since g.M.MetaDisk.fault_count g.M.MetaDisk.calls g.M.MetaDisk.leads g.M.MetaDisk.may_leave (FillOther c.args.image.now) c.args.self.now _ _ (has_room (c.args.self.now.generation) c.args.image.now _ low w.inside) (
      fill_is_filled g.M.MetaDisk.seen g.M.MetaDisk.may_leave g.M.MetaDisk.moment g.M.MetaDisk.left_since g.met.M.MetaDisk.only_now c.args.self.now c.requires.cleared c.other.result c.other.ensures c.args.image.now c.deref.result.now w.is w.inside c.write_synced.new.disk c.in_ok-write_synced.ensures.bytes c.in_ok-bytes.ensures.typed c.requires.ids low c.half_len.ensures.small c.len-2.result ends c.in_ok-write_synced.ensures.durable,
      fill_found g.M.MetaDisk.seen g.M.MetaDisk.may_leave g.M.MetaDisk.moment g.M.MetaDisk.left_since g.met.M.MetaDisk.only_now c.args.self.now c.requires.cleared c.other.result c.other.ensures c.args.image.now c.deref.result.now w.is w.inside c.write_synced.new.disk c.in_ok-write_synced.ensures.bytes c.in_ok-bytes.ensures.typed c.requires.ids low c.half_len.ensures.small c.len-2.result ends,
      fill_filled g.M.MetaDisk.seen g.M.MetaDisk.may_leave g.M.MetaDisk.moment g.M.MetaDisk.left_since g.met.M.MetaDisk.only_now c.args.self.now c.requires.cleared c.other.result c.other.ensures c.args.image.now c.deref.result.now w.is w.inside c.write_synced.new.disk c.in_ok-write_synced.ensures.bytes c.in_ok-bytes.ensures.typed c.requires.ids low c.half_len.ensures.small c.len-2.result ends,
      ends ∙ ap (λ (b : List ℕ). length b) is,
    )
    (ap (λ (b : Bool). record (head_of c.args.self.now) { other_is_open = b }) c.requires.cleared.shut)
    (record {
      size = c.write_synced.ensures.size;
      any_moment = stays g.M.MetaDisk.moment g.M.MetaDisk.left_since c.args.self.now.disk c.write_synced.new.disk (found g.M.MetaDisk.seen c.args.self.now) (found g.M.MetaDisk.seen c.args.self.now)
          (fill_run g.M.MetaDisk.seen g.M.MetaDisk.may_leave g.M.MetaDisk.moment g.M.MetaDisk.left_since g.met.M.MetaDisk.only_now c.args.self.now c.requires.cleared c.other.result c.other.ensures c.args.image.now c.deref.result.now w.is w.inside c.write_synced.new.disk c.write_synced.ensures.any_moment);
      asks = asks_all g.M.MetaDisk.fault_count g.M.MetaDisk.calls g.M.MetaDisk.leads (fill_calls g.M.MetaDisk.seen c.args.self.now c.args.image.now) c.args.self.now.disk c.write_synced.new.disk _
          (same_write (λ n b. g.M.MetaDisk.leads c.args.self.now.disk (all_made (write_and_sync n b)) c.write_synced.new.disk) _ _ _ _ at is c.in_ok-write_synced.ensures.done)
          c.in_ok-write_synced.ensures.made c.in_ok-write_synced.ensures.cause.quiet;
    })
