use Rattle.std.proofs.Common.{ℕ, ◌+◌, ◌⊎◌, inl, inr, true, false, List, ◌∷◌, length, subst, arith}
use Rattle.fc_metadisk.specs.Disk.{Torn}
use Rattle.fc_metadisk.proofs.Rows.{torn_none}
use Rattle.fc_format.specs.Halves.{half_start}
use Rattle.fc_meta.specs.Answers.{MayTear}
use Rattle.fc_meta.proofs.Sides.{starts_inside}
use Rattle.fc_meta.proofs.Moments.{started, goes_on}
use Rattle.fc_metadisk.specs.Calls.{Writes, Syncs, one_made}
use Rattle.fc_meta.proofs.Places.{on_ok, on_err, err_holds}
use Rattle.fc_meta.proofs.disk.write_synced.Goals as goal

pub overflow_add-place : goal.overflow_add-place
overflow_add-place g c =
    let s = starts_inside c.args.half (g.M.MetaDisk.seen c.args.disk.now) in
    omega (arith, s, c.requires, c.start_of.ensures.value, c.start_of.ensures.small)

pub returns-clause-any_moment : goal.returns-clause-any_moment
returns-clause-any_moment g c =
    let at = half_start c.args.half (g.M.MetaDisk.seen c.args.disk.now) + c.args.at in
    let n = length c.args.bytes.now in
    let P : List ℕ → Type 0 = MayTear at n (g.M.MetaDisk.may_leave c.args.disk.now) in
    let torn : (r : List ℕ) → g.M.MetaDisk.may_leave c.write_at.new.self r → P r = λ r now.
    let from = c.write_at.ensures.crash r now in
    (from.0, from.1, subst (λ (m : ℕ). Torn (m + c.args.at) n from.0 r) c.start_of.ensures.value from.2) in
    let begun = started g.M.MetaDisk.moment g.M.MetaDisk.left_since c.args.disk.now P (λ r left. (r, g.met.M.MetaDisk.only_now c.args.disk.now r left, torn_none at n r)) in
    let written = goes_on g.M.MetaDisk.moment g.M.MetaDisk.left_since c.args.disk.now c.args.disk.now c.write_at.new.self P _ begun c.write_at.ensures.time torn in
    goes_on g.M.MetaDisk.moment g.M.MetaDisk.left_since c.args.disk.now c.write_at.new.self c.sync.new.self P _ written c.sync.ensures.time (λ r now. torn r (c.sync.ensures.crash r now))

pub returns-in_err-write_at-clause-cut_short : goal.returns-in_err-write_at-clause-cut_short
returns-in_err-write_at-clause-cut_short g c =
    err_holds c.from_residual.result _
    (inl (subst (λ (n : ℕ). g.M.MetaDisk.leads c.args.disk.now (one_made (Writes (n + c.args.at) c.args.bytes.now) true) c.write_at.new.self) c.start_of.ensures.value c.in_err-write_at.ensures.made))

pub returns-clause-done : goal.returns-clause-done
returns-clause-done g c =
    let written = subst (λ (n : ℕ). g.M.MetaDisk.leads c.args.disk.now (one_made (Writes (n + c.args.at) c.args.bytes.now) false) c.write_at.new.self) c.start_of.ensures.value c.in_ok-write_at.ensures.made in
    on_ok c.sync.result (λ b. g.M.MetaDisk.leads c.args.disk.now (record { call = Writes (half_start c.args.half (g.M.MetaDisk.seen c.args.disk.now) + c.args.at) c.args.bytes.now; failed = false } ∷ one_made Syncs b) c.sync.new.self)
    (g.met.M.MetaDisk.leads_on c.args.disk.now c.write_at.new.self c.sync.new.self _ _ written c.sync.ensures.made)

pub returns-clause-cut_short : goal.returns-clause-cut_short
returns-clause-cut_short g c =
    let written = subst (λ (n : ℕ). g.M.MetaDisk.leads c.args.disk.now (one_made (Writes (n + c.args.at) c.args.bytes.now) false) c.write_at.new.self) c.start_of.ensures.value c.in_ok-write_at.ensures.made in
    on_err c.sync.result (λ b. g.M.MetaDisk.leads c.args.disk.now (one_made (Writes (half_start c.args.half (g.M.MetaDisk.seen c.args.disk.now) + c.args.at) c.args.bytes.now) true) c.sync.new.self
    ⊎ (g.M.MetaDisk.leads c.args.disk.now (record { call = Writes (half_start c.args.half (g.M.MetaDisk.seen c.args.disk.now) + c.args.at) c.args.bytes.now; failed = false } ∷ one_made Syncs b) c.sync.new.self ⊎ ⊥))
    (inr (inl (g.met.M.MetaDisk.leads_on c.args.disk.now c.write_at.new.self c.sync.new.self _ _ written c.sync.ensures.made)))
