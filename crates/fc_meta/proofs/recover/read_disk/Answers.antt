use Rattle.std.proofs.Common.{ℕ, ◌≤◌, List, inl, sym, ◌∙◌, subst}
use Rattle.std.proofs.lemmas.Result.{err_from_is_err_and}
use Rattle.fc_format.specs.Halves.{half_size, least_half}
use Rattle.fc_meta.specs.Recovering.{IsImageRead, IsBadHalf}
use Rattle.fc_meta.proofs.Moments.{started, goes_on, joined, weaker}
use Rattle.fc_meta.proofs.Recovered.{both_read, none_read, facts_of, read_room, read_rests, bad_cause}
use Rattle.fc_meta.proofs.recover.read_disk.Goals as goal

pub read_image-requires : goal.read_image-requires
read_image-requires g c =
    let f = facts_of (g.M.MetaDisk.seen c.args.disk.now) c.in-Some.current (c.in-Some.ensures ∙ both_read _ _ _ _ _ c.sync.ensures.seen c.read_generation.ensures.seen c.in_ok-first.ensures.value c.in_ok-second.ensures.value) in
    subst (λ (z : List ℕ). least_half ≤ half_size z) (sym (c.read_generation-2.ensures.seen ∙ (c.read_generation.ensures.seen ∙ c.sync.ensures.seen))) (read_room (g.M.MetaDisk.seen c.args.disk.now) c.in-Some.current f)

pub returns-in_err-image-in-Some-clause-cause : goal.returns-in_err-image-in-Some-clause-cause
returns-in_err-image-in-Some-clause-cause g c =
    let f = facts_of (g.M.MetaDisk.seen c.args.disk.now) c.in-Some.current (c.in-Some.ensures ∙ both_read _ _ _ _ _ c.sync.ensures.seen c.read_generation.ensures.seen c.in_ok-first.ensures.value c.in_ok-second.ensures.value) in
    let p = err_from_is_err_and c.from_residual-in_err-image-in-Some.result c.from_residual-in_err-image-in-Some.ensures.1 in
    rw (p.1, p.2) (bad_cause (g.M.MetaDisk.seen c.args.disk.now) c.in-Some.current f c.in_err-image-in-Some.field-0.0
    (subst (λ (z : List ℕ). IsBadHalf c.in-Some.current.half z c.in_err-image-in-Some.field-0.0) (c.read_generation-2.ensures.seen ∙ (c.read_generation.ensures.seen ∙ c.sync.ensures.seen)) c.in_err-image-in-Some.ensures.told))

pub returns-in-None-clause-cause : goal.returns-in-None-clause-cause
returns-in-None-clause-cause g c =
    none_read (g.M.MetaDisk.seen c.args.disk.now) (c.in-None.ensures ∙ both_read _ _ _ _ _ c.sync.ensures.seen c.read_generation.ensures.seen c.in_ok-first.ensures.value c.in_ok-second.ensures.value)

pub returns-in_ok-image-in-Some-clause-rests : goal.returns-in_ok-image-in-Some-clause-rests
returns-in_ok-image-in-Some-clause-rests g c =
    let f = facts_of (g.M.MetaDisk.seen c.args.disk.now) c.in-Some.current (c.in-Some.ensures ∙ both_read _ _ _ _ _ c.sync.ensures.seen c.read_generation.ensures.seen c.in_ok-first.ensures.value c.in_ok-second.ensures.value) in
    read_rests (g.M.MetaDisk.seen c.args.disk.now) c.in-Some.current f c.in_ok-image-in-Some.image c.in_ok-image-in-Some.used
    (subst (λ (z : List ℕ). IsImageRead c.in-Some.current.half c.in_ok-image-in-Some.image c.in_ok-image-in-Some.used z) (c.read_generation-2.ensures.seen ∙ (c.read_generation.ensures.seen ∙ c.sync.ensures.seen)) c.in_ok-image-in-Some.ensures.image)

pub returns-in_ok-image-in-Some-clause-any_moment : goal.returns-in_ok-image-in-Some-clause-any_moment
returns-in_ok-image-in-Some-clause-any_moment g c =
    let P : List ℕ → Type 0 = g.M.MetaDisk.may_leave c.args.disk.now in
    let begun = started g.M.MetaDisk.moment g.M.MetaDisk.left_since c.args.disk.now P (λ r left. g.met.M.MetaDisk.only_now c.args.disk.now r left) in
    let synced = goes_on g.M.MetaDisk.moment g.M.MetaDisk.left_since c.args.disk.now c.args.disk.now c.sync.new.self P _ begun c.sync.ensures.time c.sync.ensures.crash in
    let one = joined g.M.MetaDisk.moment g.M.MetaDisk.left_since c.args.disk.now c.sync.new.self c.read_generation.new.disk P synced
    (weaker g.M.MetaDisk.moment g.M.MetaDisk.left_since c.sync.new.self c.read_generation.new.disk (g.M.MetaDisk.may_leave c.sync.new.self) P c.sync.ensures.crash c.read_generation.ensures.any_moment) in
    let two = joined g.M.MetaDisk.moment g.M.MetaDisk.left_since c.args.disk.now c.read_generation.new.disk c.read_generation-2.new.disk P one
    (weaker g.M.MetaDisk.moment g.M.MetaDisk.left_since c.read_generation.new.disk c.read_generation-2.new.disk (g.M.MetaDisk.may_leave c.read_generation.new.disk) P
    (λ r now. c.sync.ensures.crash r (c.read_generation.ensures.crash r now)) c.read_generation-2.ensures.any_moment) in
    joined g.M.MetaDisk.moment g.M.MetaDisk.left_since c.args.disk.now c.read_generation-2.new.disk c.read_image.new.disk P two
    (weaker g.M.MetaDisk.moment g.M.MetaDisk.left_since c.read_generation-2.new.disk c.read_image.new.disk (g.M.MetaDisk.may_leave c.read_generation-2.new.disk) P
    (λ r now. c.sync.ensures.crash r (c.read_generation.ensures.crash r (c.read_generation-2.ensures.crash r now))) c.read_image.ensures.any_moment)

pub returns-in_err-first-clause-cut_short : goal.returns-in_err-first-clause-cut_short
returns-in_err-first-clause-cut_short g c =
    let led1 = g.met.M.MetaDisk.leads_on c.args.disk.now c.sync.new.self c.read_generation.new.disk _ _ c.in_ok-sync.ensures.made c.read_generation.ensures.made in
    let p = err_from_is_err_and c.from_residual-in_err-first.result c.from_residual-in_err-first.ensures.1 in
    rw (p.1, p.2) (inl led1)

pub returns-in_err-second-clause-cut_short : goal.returns-in_err-second-clause-cut_short
returns-in_err-second-clause-cut_short g c =
    let led1 = g.met.M.MetaDisk.leads_on c.args.disk.now c.sync.new.self c.read_generation.new.disk _ _ c.in_ok-sync.ensures.made c.read_generation.ensures.made in
    let led2 = g.met.M.MetaDisk.leads_on c.args.disk.now c.read_generation.new.disk c.read_generation-2.new.disk _ _ led1 c.read_generation-2.ensures.made in
    let p = err_from_is_err_and c.from_residual-in_err-second.result c.from_residual-in_err-second.ensures.1 in
    rw (p.1, p.2) (inl led2)

pub returns-in_err-image-in-Some-clause-cut_short : goal.returns-in_err-image-in-Some-clause-cut_short
returns-in_err-image-in-Some-clause-cut_short g c =
    let led1 = g.met.M.MetaDisk.leads_on c.args.disk.now c.sync.new.self c.read_generation.new.disk _ _ c.in_ok-sync.ensures.made c.read_generation.ensures.made in
    let led2 = g.met.M.MetaDisk.leads_on c.args.disk.now c.read_generation.new.disk c.read_generation-2.new.disk _ _ led1 c.read_generation-2.ensures.made in
    let led3 = g.met.M.MetaDisk.leads_on c.args.disk.now c.read_generation-2.new.disk c.read_image.new.disk _ _ led2 c.read_image.ensures.made in
    let p = err_from_is_err_and c.from_residual-in_err-image-in-Some.result c.from_residual-in_err-image-in-Some.ensures.1 in
    rw (p.1, p.2) (inl led3)

pub returns-in-None-clause-cut_short : goal.returns-in-None-clause-cut_short
returns-in-None-clause-cut_short g c =
    let led1 = g.met.M.MetaDisk.leads_on c.args.disk.now c.sync.new.self c.read_generation.new.disk _ _ c.in_ok-sync.ensures.made c.read_generation.ensures.made in
    let led2 = g.met.M.MetaDisk.leads_on c.args.disk.now c.read_generation.new.disk c.read_generation-2.new.disk _ _ led1 c.read_generation-2.ensures.made in
    inl led2

pub returns-in_ok-image-in-Some-clause-done : goal.returns-in_ok-image-in-Some-clause-done
returns-in_ok-image-in-Some-clause-done g c =
    let led1 = g.met.M.MetaDisk.leads_on c.args.disk.now c.sync.new.self c.read_generation.new.disk _ _ c.in_ok-sync.ensures.made c.read_generation.ensures.made in
    let led2 = g.met.M.MetaDisk.leads_on c.args.disk.now c.read_generation.new.disk c.read_generation-2.new.disk _ _ led1 c.read_generation-2.ensures.made in
    let led3 = g.met.M.MetaDisk.leads_on c.args.disk.now c.read_generation-2.new.disk c.read_image.new.disk _ _ led2 c.read_image.ensures.made in
    led3
