-- The decision is made ready and done, and metadata is made anew.
use Rattle.std.proofs.Common.{◌≡◌, Bool, Some, is_some, inl, inr, refl, sym, ap, subst, ◌∙◌}
use Rattle.fc_marks.specs.declared.error.NotedStop.{NotedStop}
use Rattle.fc_meta.specs.States.{disk_of}
use Rattle.law_noted.specs.Records.{removed_by}
use Rattle.fc_noted.proofs.Acting.{about_image, acted_image, acted_on, always_true, anew_by_image, anew_still, first_true, none_gone, on_error, stayed}
use Rattle.fc_noted.proofs.CallsMade.{any_metadata, no_error}
use Rattle.fc_noted.specs.Making.{AnewOr, done, HasActed, HasStayed, IsImageAfter, TriesAnew}
use Rattle.std.proofs.lemmas.Result.{err_from_is_err_and}
use Rattle.fc_noted.proofs.MeteringNoted.{calls_of_error, no_calls, none_wanting, same_calls}
use Rattle.fc_noted.proofs.noted.Noted.act.Goals as goal

-- ---- nothing is done yet

pub returns-in_err-reserve_all-clause-any_moment : goal.returns-in_err-reserve_all-clause-any_moment
returns-in_err-reserve_all-clause-any_moment g c =
    anew_still g.M.MetaDisk.seen g.M.MetaDisk.may_leave g.M.MetaDisk.moment g.M.MetaDisk.left_since c.args.self.now c.args.decision.now g.met.M.MetaDisk.only_now c.requires.rests

pub returns-in_err-image-clause-any_moment : goal.returns-in_err-image-clause-any_moment
returns-in_err-image-clause-any_moment g c =
    anew_still g.M.MetaDisk.seen g.M.MetaDisk.may_leave g.M.MetaDisk.moment g.M.MetaDisk.left_since c.args.self.now c.args.decision.now g.met.M.MetaDisk.only_now c.requires.rests

pub returns-in_err-image-2-clause-any_moment : goal.returns-in_err-image-2-clause-any_moment
returns-in_err-image-2-clause-any_moment g c =
    anew_still g.M.MetaDisk.seen g.M.MetaDisk.may_leave g.M.MetaDisk.moment g.M.MetaDisk.left_since c.args.self.now c.args.decision.now g.met.M.MetaDisk.only_now c.requires.rests

pub returns-else-has_action-clause-any_moment : goal.returns-else-has_action-clause-any_moment
returns-else-has_action-clause-any_moment g c =
    anew_still g.M.MetaDisk.seen g.M.MetaDisk.may_leave g.M.MetaDisk.moment g.M.MetaDisk.left_since c.args.self.now c.args.decision.now g.met.M.MetaDisk.only_now c.requires.rests

-- ---- a volume goes

pub make_anew-requires-clause-ids : goal.make_anew-requires-clause-ids
make_anew-requires-clause-ids g c =
    c.requires.good c.in_ok-image.image
    (about_image c.args.self.now.store c.reserve_all.new.self c.args.decision.now c.in-Some.volume c.control.result.now c.all_lanes.result.now c.in_ok-image.image c.reserve_all.ensures.reserved
    (sym c.removed_by.ensures ∙ c.in-Some.is) c.control.ensures c.all_lanes.ensures c.in_ok-image.ensures)

pub returns-in_err-make_anew-clause-undone : goal.returns-in_err-make_anew-clause-undone
returns-in_err-make_anew-clause-undone g c =
    on_error c.from_residual-in_err-make_anew.result _
    (inl (subst (HasStayed c.args.self.now.store) (sym (ap (λ n. n.store) c.make_anew.ensures.others)) (stayed c.args.self.now.store c.reserve_all.new.self c.reserve_all.ensures.reserved)))

pub returns-in_err-make_anew-clause-any_moment : goal.returns-in_err-make_anew-clause-any_moment
returns-in_err-make_anew-clause-any_moment g c =
    let after : IsImageAfter c.args.self.now.store c.args.decision.now c.in_ok-image.image =
    about_image c.args.self.now.store c.reserve_all.new.self c.args.decision.now c.in-Some.volume c.control.result.now c.all_lanes.result.now c.in_ok-image.image c.reserve_all.ensures.reserved
    (sym c.removed_by.ensures ∙ c.in-Some.is) c.control.ensures c.all_lanes.ensures c.in_ok-image.ensures in
    anew_by_image g.M.MetaDisk.seen g.M.MetaDisk.may_leave g.M.MetaDisk.moment g.M.MetaDisk.left_since c.args.self.now c.args.decision.now (disk_of c.make_anew.new.self.meta) c.in_ok-image.image after c.make_anew.ensures.any_moment

pub returns-in-Some-clause-done : goal.returns-in-Some-clause-done
returns-in-Some-clause-done g c =
    acted_on c.args.self.now.store c.reserve_all.new.self c.make_anew.new.self.store c.apply_all.new.self c.args.decision.now c.reserve_all.ensures.reserved (ap (λ n. n.store) c.make_anew.ensures.others) c.apply_all.ensures.done

pub returns-in-Some-clause-any_moment : goal.returns-in-Some-clause-any_moment
returns-in-Some-clause-any_moment g c =
    let after : IsImageAfter c.args.self.now.store c.args.decision.now c.in_ok-image.image =
    about_image c.args.self.now.store c.reserve_all.new.self c.args.decision.now c.in-Some.volume c.control.result.now c.all_lanes.result.now c.in_ok-image.image c.reserve_all.ensures.reserved
    (sym c.removed_by.ensures ∙ c.in-Some.is) c.control.ensures c.all_lanes.ensures c.in_ok-image.ensures in
    anew_by_image g.M.MetaDisk.seen g.M.MetaDisk.may_leave g.M.MetaDisk.moment g.M.MetaDisk.left_since c.args.self.now c.args.decision.now (disk_of c.make_anew.new.self.meta) c.in_ok-image.image after c.make_anew.ensures.any_moment

pub returns-in-Some-clause-anew : goal.returns-in-Some-clause-anew
returns-in-Some-clause-anew g c =
    let gone : removed_by c.args.decision.now.events ≡ Some c.in-Some.volume = sym c.removed_by.ensures ∙ c.in-Some.is in
    let after : IsImageAfter c.args.self.now.store c.args.decision.now c.in_ok-image.image =
    about_image c.args.self.now.store c.reserve_all.new.self c.args.decision.now c.in-Some.volume c.control.result.now c.all_lanes.result.now c.in_ok-image.image c.reserve_all.ensures.reserved
    gone c.control.ensures c.all_lanes.ensures c.in_ok-image.ensures in
    subst (λ (b : Bool). AnewOr g.M.MetaDisk.seen g.M.MetaDisk.may_leave b c.args.decision.now c.args.self.now (record c.make_anew.new.self { store = c.apply_all.new.self }))
    (sym (always_true c.args.has_action (is_some (removed_by c.args.decision.now.events)) (ap is_some gone)))
    (record {
      rests = c.in_ok-make_anew.ensures.rests;
      image = c.in_ok-image.image;
      found_is = c.in_ok-make_anew.ensures.found;
      after = after;
      named = c.in_ok-make_anew.ensures.named.0;
      unmarked = c.in_ok-make_anew.ensures.named.1;
      metered = c.in_ok-make_anew.ensures.metered;
      calls = c.make_anew.ensures.calls;
    })

-- ---- or none goes

pub returns-in_err-image-2-clause-undone : goal.returns-in_err-image-2-clause-undone
returns-in_err-image-2-clause-undone g c =
    on_error c.from_residual-in_err-image-2.result _
    (inr (
      acted_on c.args.self.now.store c.reserve_all.new.self c.reserve_all.new.self c.apply_all-2.new.self c.args.decision.now c.reserve_all.ensures.reserved refl c.apply_all-2.ensures.done,
      sym c.removed_by.ensures ∙ none_gone c.removed_by.result c.in_default.not-Some,
    ))

pub make_anew-requires-then-has_action-clause-ids : goal.make_anew-requires-then-has_action-clause-ids
make_anew-requires-then-has_action-clause-ids g c =
    c.requires.good c.in_ok-image-2.image
    (acted_image c.args.self.now.store c.reserve_all.new.self c.apply_all-2.new.self c.args.decision.now c.control-then-has_action.result.now c.all_lanes-then-has_action.result.now c.in_ok-image-2.image c.reserve_all.ensures.reserved c.apply_all-2.ensures.done
    (sym c.removed_by.ensures ∙ none_gone c.removed_by.result c.in_default.not-Some) c.control-then-has_action.ensures c.all_lanes-then-has_action.ensures c.in_ok-image-2.ensures)

pub returns-in_err-make_anew-2-clause-undone : goal.returns-in_err-make_anew-2-clause-undone
returns-in_err-make_anew-2-clause-undone g c =
    let done : HasActed c.args.decision.now c.args.self.now.store c.apply_all-2.new.self =
    acted_on c.args.self.now.store c.reserve_all.new.self c.reserve_all.new.self c.apply_all-2.new.self c.args.decision.now c.reserve_all.ensures.reserved refl c.apply_all-2.ensures.done in
    on_error c.from_residual-in_err-make_anew-2.result _
    (inr (
      subst (HasActed c.args.decision.now c.args.self.now.store) (sym (ap (λ n. n.store) c.make_anew-then-has_action.ensures.others)) done,
      sym c.removed_by.ensures ∙ none_gone c.removed_by.result c.in_default.not-Some,
    ))

pub returns-in_err-make_anew-2-clause-any_moment : goal.returns-in_err-make_anew-2-clause-any_moment
returns-in_err-make_anew-2-clause-any_moment g c =
    let after : IsImageAfter c.args.self.now.store c.args.decision.now c.in_ok-image-2.image =
    acted_image c.args.self.now.store c.reserve_all.new.self c.apply_all-2.new.self c.args.decision.now c.control-then-has_action.result.now c.all_lanes-then-has_action.result.now c.in_ok-image-2.image c.reserve_all.ensures.reserved c.apply_all-2.ensures.done
    (sym c.removed_by.ensures ∙ none_gone c.removed_by.result c.in_default.not-Some) c.control-then-has_action.ensures c.all_lanes-then-has_action.ensures c.in_ok-image-2.ensures in
    anew_by_image g.M.MetaDisk.seen g.M.MetaDisk.may_leave g.M.MetaDisk.moment g.M.MetaDisk.left_since c.args.self.now c.args.decision.now (disk_of c.make_anew-then-has_action.new.self.meta) c.in_ok-image-2.image after c.make_anew-then-has_action.ensures.any_moment

pub returns-in_ok-make_anew-2-clause-any_moment : goal.returns-in_ok-make_anew-2-clause-any_moment
returns-in_ok-make_anew-2-clause-any_moment g c =
    let after : IsImageAfter c.args.self.now.store c.args.decision.now c.in_ok-image-2.image =
    acted_image c.args.self.now.store c.reserve_all.new.self c.apply_all-2.new.self c.args.decision.now c.control-then-has_action.result.now c.all_lanes-then-has_action.result.now c.in_ok-image-2.image c.reserve_all.ensures.reserved c.apply_all-2.ensures.done
    (sym c.removed_by.ensures ∙ none_gone c.removed_by.result c.in_default.not-Some) c.control-then-has_action.ensures c.all_lanes-then-has_action.ensures c.in_ok-image-2.ensures in
    anew_by_image g.M.MetaDisk.seen g.M.MetaDisk.may_leave g.M.MetaDisk.moment g.M.MetaDisk.left_since c.args.self.now c.args.decision.now (disk_of c.make_anew-then-has_action.new.self.meta) c.in_ok-image-2.image after c.make_anew-then-has_action.ensures.any_moment

pub returns-in_ok-make_anew-2-clause-done : goal.returns-in_ok-make_anew-2-clause-done
returns-in_ok-make_anew-2-clause-done g c =
    subst (HasActed c.args.decision.now c.args.self.now.store) (sym (ap (λ n. n.store) c.make_anew-then-has_action.ensures.others))
    (acted_on c.args.self.now.store c.reserve_all.new.self c.reserve_all.new.self c.apply_all-2.new.self c.args.decision.now c.reserve_all.ensures.reserved refl c.apply_all-2.ensures.done)

pub returns-in_ok-make_anew-2-clause-anew : goal.returns-in_ok-make_anew-2-clause-anew
returns-in_ok-make_anew-2-clause-anew g c =
    let after : IsImageAfter c.args.self.now.store c.args.decision.now c.in_ok-image-2.image =
    acted_image c.args.self.now.store c.reserve_all.new.self c.apply_all-2.new.self c.args.decision.now c.control-then-has_action.result.now c.all_lanes-then-has_action.result.now c.in_ok-image-2.image c.reserve_all.ensures.reserved c.apply_all-2.ensures.done
    (sym c.removed_by.ensures ∙ none_gone c.removed_by.result c.in_default.not-Some) c.control-then-has_action.ensures c.all_lanes-then-has_action.ensures c.in_ok-image-2.ensures in
    subst (λ (b : Bool). AnewOr g.M.MetaDisk.seen g.M.MetaDisk.may_leave b c.args.decision.now c.args.self.now c.make_anew-then-has_action.new.self)
    (sym (first_true c.args.has_action (is_some (removed_by c.args.decision.now.events)) c.if-has_action.true))
    (record {
      rests = c.in_ok-make_anew-2.ensures.rests;
      image = c.in_ok-image-2.image;
      found_is = c.in_ok-make_anew-2.ensures.found;
      after = after;
      named = c.in_ok-make_anew-2.ensures.named.0;
      unmarked = c.in_ok-make_anew-2.ensures.named.1;
      metered = c.in_ok-make_anew-2.ensures.metered;
      calls = c.make_anew-then-has_action.ensures.calls;
    })

pub returns-else-has_action-clause-done : goal.returns-else-has_action-clause-done
returns-else-has_action-clause-done g c =
    acted_on c.args.self.now.store c.reserve_all.new.self c.reserve_all.new.self c.apply_all-2.new.self c.args.decision.now c.reserve_all.ensures.reserved refl c.apply_all-2.ensures.done

-- ---- calls of the disk of metadata

pub returns-in_err-make_anew-clause-counted : goal.returns-in_err-make_anew-clause-counted
returns-in_err-make_anew-clause-counted g c =
    let p = err_from_is_err_and c.from_residual-in_err-make_anew.result c.from_residual-in_err-make_anew.ensures.1 in
    let mid = record c.args.self.now { store = c.reserve_all.new.self } in
    calls_of_error g.M.MetaDisk.seen g.M.MetaDisk.fault_count g.M.MetaDisk.calls c.from_residual-in_err-make_anew.result p.0 c.in_err-make_anew.field-0.0 c.args.self.now mid c.make_anew.new.self c.make_anew.new.self p.1 p.2 refl refl refl refl c.in_err-make_anew.ensures.counted

pub returns-in-Some-clause-counted : goal.returns-in-Some-clause-counted
returns-in-Some-clause-counted g c =
    let mid = record c.args.self.now { store = c.reserve_all.new.self } in
    let new = record c.make_anew.new.self { store = c.apply_all.new.self } in
    same_calls g.M.MetaDisk.seen g.M.MetaDisk.fault_count g.M.MetaDisk.calls done done c.args.self.now mid c.make_anew.new.self new refl refl refl refl (λ P p. p) (λ e. e) (λ e. e) c.in_ok-make_anew.ensures.counted

pub returns-in_err-make_anew-clause-tried : goal.returns-in_err-make_anew-clause-tried
returns-in_err-make_anew-clause-tried g c =
    let p = err_from_is_err_and c.from_residual-in_err-make_anew.result c.from_residual-in_err-make_anew.ensures.1 in
    let stop : NotedStop = c.in_err-make_anew.field-0.0 in
    let gone : removed_by c.args.decision.now.events ≡ Some c.in-Some.volume = sym c.removed_by.ensures ∙ c.in-Some.is in
    let after : IsImageAfter c.args.self.now.store c.args.decision.now c.in_ok-image.image =
    about_image c.args.self.now.store c.reserve_all.new.self c.args.decision.now c.in-Some.volume c.control.result.now c.all_lanes.result.now c.in_ok-image.image c.reserve_all.ensures.reserved
    gone c.control.ensures c.all_lanes.ensures c.in_ok-image.ensures in
    let tries : TriesAnew g.M.MetaDisk.seen g.M.MetaDisk.may_leave g.M.MetaDisk.calls c.args.decision.now stop c.args.self.now c.make_anew.new.self =
    record { image = c.in_ok-image.image; after = after; counted = c.make_anew.ensures.calls; short = c.in_err-make_anew.ensures.short } in
    rw (p.1, p.2) (any_metadata stop (always_true c.args.has_action (is_some (removed_by c.args.decision.now.events)) (ap is_some gone), tries))

pub returns-in_err-make_anew-2-clause-counted : goal.returns-in_err-make_anew-2-clause-counted
returns-in_err-make_anew-2-clause-counted g c =
    let p = err_from_is_err_and c.from_residual-in_err-make_anew-2.result c.from_residual-in_err-make_anew-2.ensures.1 in
    let mid = record c.args.self.now { store = c.apply_all-2.new.self } in
    let new = c.make_anew-then-has_action.new.self in
    calls_of_error g.M.MetaDisk.seen g.M.MetaDisk.fault_count g.M.MetaDisk.calls c.from_residual-in_err-make_anew-2.result p.0 c.in_err-make_anew-2.field-0.0 c.args.self.now mid new new p.1 p.2 refl refl refl refl c.in_err-make_anew-2.ensures.counted

pub returns-in_ok-make_anew-2-clause-counted : goal.returns-in_ok-make_anew-2-clause-counted
returns-in_ok-make_anew-2-clause-counted g c =
    let mid = record c.args.self.now { store = c.apply_all-2.new.self } in
    let new = c.make_anew-then-has_action.new.self in
    same_calls g.M.MetaDisk.seen g.M.MetaDisk.fault_count g.M.MetaDisk.calls done done c.args.self.now mid new new refl refl refl refl (λ P p. p) (λ e. e) (λ e. e) c.in_ok-make_anew-2.ensures.counted

pub returns-in_err-make_anew-2-clause-tried : goal.returns-in_err-make_anew-2-clause-tried
returns-in_err-make_anew-2-clause-tried g c =
    let p = err_from_is_err_and c.from_residual-in_err-make_anew-2.result c.from_residual-in_err-make_anew-2.ensures.1 in
    let stop : NotedStop = c.in_err-make_anew-2.field-0.0 in
    let after : IsImageAfter c.args.self.now.store c.args.decision.now c.in_ok-image-2.image =
    acted_image c.args.self.now.store c.reserve_all.new.self c.apply_all-2.new.self c.args.decision.now c.control-then-has_action.result.now c.all_lanes-then-has_action.result.now c.in_ok-image-2.image c.reserve_all.ensures.reserved c.apply_all-2.ensures.done
    (sym c.removed_by.ensures ∙ none_gone c.removed_by.result c.in_default.not-Some) c.control-then-has_action.ensures c.all_lanes-then-has_action.ensures c.in_ok-image-2.ensures in
    let tries : TriesAnew g.M.MetaDisk.seen g.M.MetaDisk.may_leave g.M.MetaDisk.calls c.args.decision.now stop c.args.self.now c.make_anew-then-has_action.new.self =
    record { image = c.in_ok-image-2.image; after = after; counted = c.make_anew-then-has_action.ensures.calls; short = c.in_err-make_anew-2.ensures.short } in
    rw (p.1, p.2) (any_metadata stop (first_true c.args.has_action (is_some (removed_by c.args.decision.now.events)) c.if-has_action.true, tries))

pub returns-else-has_action-clause-counted : goal.returns-else-has_action-clause-counted
returns-else-has_action-clause-counted g c = no_calls g.M.MetaDisk.seen g.M.MetaDisk.fault_count g.M.MetaDisk.calls done c.args.self.now (record c.args.self.now { store = c.apply_all-2.new.self }) refl refl (no_error tt)

-- for want of memory it isn't

pub returns-in_err-reserve_all-clause-counted : goal.returns-in_err-reserve_all-clause-counted
returns-in_err-reserve_all-clause-counted g c =
    let p = err_from_is_err_and c.from_residual.result c.from_residual.ensures.1 in
    none_wanting g.M.MetaDisk.seen g.M.MetaDisk.fault_count g.M.MetaDisk.calls c.from_residual.result p.0 c.args.self.now (record c.args.self.now { store = c.reserve_all.new.self }) p.1 p.2 refl refl

pub returns-in_err-image-clause-counted : goal.returns-in_err-image-clause-counted
returns-in_err-image-clause-counted g c =
    let p = err_from_is_err_and c.from_residual-in_err-image.result c.from_residual-in_err-image.ensures.1 in
    none_wanting g.M.MetaDisk.seen g.M.MetaDisk.fault_count g.M.MetaDisk.calls c.from_residual-in_err-image.result p.0 c.args.self.now (record c.args.self.now { store = c.reserve_all.new.self }) p.1 p.2 refl refl

pub returns-in_err-image-2-clause-counted : goal.returns-in_err-image-2-clause-counted
returns-in_err-image-2-clause-counted g c =
    let p = err_from_is_err_and c.from_residual-in_err-image-2.result c.from_residual-in_err-image-2.ensures.1 in
    none_wanting g.M.MetaDisk.seen g.M.MetaDisk.fault_count g.M.MetaDisk.calls c.from_residual-in_err-image-2.result p.0 c.args.self.now (record c.args.self.now { store = c.apply_all-2.new.self }) p.1 p.2 refl refl

pub returns-in_err-reserve_all-clause-tried : goal.returns-in_err-reserve_all-clause-tried
returns-in_err-reserve_all-clause-tried g c = let p = err_from_is_err_and c.from_residual.result c.from_residual.ensures.1 in rw (p.1, p.2) tt

pub returns-in_err-image-clause-tried : goal.returns-in_err-image-clause-tried
returns-in_err-image-clause-tried g c = let p = err_from_is_err_and c.from_residual-in_err-image.result c.from_residual-in_err-image.ensures.1 in rw (p.1, p.2) tt

pub returns-in_err-image-2-clause-tried : goal.returns-in_err-image-2-clause-tried
returns-in_err-image-2-clause-tried g c = let p = err_from_is_err_and c.from_residual-in_err-image-2.result c.from_residual-in_err-image-2.ensures.1 in rw (p.1, p.2) tt
