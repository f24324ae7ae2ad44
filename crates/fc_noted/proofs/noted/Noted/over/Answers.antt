-- Over disks without names, with the first image.
use Rattle.std.proofs.Common.{None, true, refl, sym, subst, ◌+◌, ◌∙◌, ◌<◌, ◌≤◌, arith, ◌/◌, ap}
use Rattle.fc_format.specs.Halves.{half_size}
use Rattle.fc_format.specs.Ranges.{HasGoodIds}
use Rattle.fc_image.specs.declared.image.MetaImage.{MetaImage}
use Rattle.fc_lanes.specs.Dealing.{pools_dealt}
use Rattle.fc_script.specs.declared.script.Script.TheVariants.{Over}
use Rattle.fc_noted.specs.declared.noted.Noted.{Noted}
use Rattle.fc_noted.proofs.Opening.{begins, first_ids, image_of_nothing, leaves_first, leaves_untouched, not_log, was_failed, was_full}
use Rattle.fc_marks.proofs.Counting.{some_made}
use Rattle.fc_marks.specs.Meter.{filled_size}
use Rattle.fc_noted.proofs.Calls.{at_once}
use Rattle.fc_noted.proofs.noted.Noted.over.Goals as goal

-- refused before the disk of metadata is called
pub returns-in-Err-clause-any_moment : goal.returns-in-Err-clause-any_moment
returns-in-Err-clause-any_moment g c =
    leaves_untouched g.M.MetaDisk.moment g.M.MetaDisk.left_since g.M.MetaDisk.seen g.M.MetaDisk.may_leave g.met.M.MetaDisk.only_now c.args.disk c.requires.zeros c.requires.synced

pub open-requires-clause-ids : goal.open-requires-clause-ids
open-requires-clause-ids g c =
    let empty = image_of_nothing c.args.store c.control.result.now c.all_lanes.result.now (pools_dealt 4 c.requires.begins.0) c.in-Ok.image c.control.ensures c.all_lanes.ensures c.requires.begins.1.stands c.in-Ok.ensures in
    subst HasGoodIds (sym empty) first_ids

pub returns-in-Ok-open-clause-any_moment : goal.returns-in-Ok-open-clause-any_moment
returns-in-Ok-open-clause-any_moment g c =
    let empty = image_of_nothing c.args.store c.control.result.now c.all_lanes.result.now (pools_dealt 4 c.requires.begins.0) c.in-Ok.image c.control.ensures c.all_lanes.ensures c.requires.begins.1.stands c.in-Ok.ensures in
    leaves_first g.M.MetaDisk.moment g.M.MetaDisk.left_since c.args.disk c.in-Ok-open.meta.disk c.in-Ok.image empty c.in-Ok-open.ensures.any_moment

pub returns-in-Ok-open-clause-noted : goal.returns-in-Ok-open-clause-noted
returns-in-Ok-open-clause-noted g c = λ disks begun.
    let n : Noted g.row.D.Denot g.row.M.Denot = record {
      alloc = c.args.alloc;
      store = c.args.store;
      meta = c.in-Ok-open.meta;
      marks = c.new.result;
      named = c.in-Ok.image.next_volume;
      disks = c.args.count;
      script = Over;
      under_way = None;
      live = true;
      calls = 4;
    } in
    begins g.M.MetaDisk.seen g.M.MetaDisk.may_leave 4 disks n
    record {
      begin = begun.begin;
      some = omega arith;
      count = begun.counted;
      stands = begun.stands;
      rests = c.in-Ok-open.ensures.rests;
      image = c.in-Ok.image;
      empty = image_of_nothing c.args.store c.control.result.now c.all_lanes.result.now (pools_dealt 4 c.requires.begins.0) c.in-Ok.image c.control.ensures c.all_lanes.ensures c.requires.begins.1.stands c.in-Ok.ensures;
      says = c.in-Ok-open.ensures.found;
      named = refl;
      unmarked = c.new.ensures.items;
      over = refl;
      idle = refl;
      generation = c.in-Ok-open.ensures.generation;
      used = c.in-Ok-open.ensures.used;
      fit = subst (λ half. 1 + filled_size c.in-Ok.image ≤ half) (sym (ap (λ n. n / 2) c.in-Ok-open.ensures.size)) c.in-Ok-open.ensures.room;
      called = let e = at_once 4 0 (omega arith) in omega (arith, e);
    }

pub returns-clause-any_moment : goal.returns-clause-any_moment
returns-clause-any_moment g c =
    let empty = image_of_nothing c.args.store c.control.result.now c.all_lanes.result.now (pools_dealt 4 c.requires.begins.0) c.in-Ok.image c.control.ensures c.all_lanes.ensures c.requires.begins.1.stands c.in-Ok.ensures in
    leaves_first g.M.MetaDisk.moment g.M.MetaDisk.left_since c.args.disk c.in-Err-open.disk c.in-Ok.image empty c.in-Err-open.ensures.any_moment

pub returns-clause-not_log : goal.returns-clause-not_log
returns-clause-not_log g c = λ is. not_log c.in-Err-open.error (sym c.stop_of.ensures ∙ is)

-- ---- calls of the disk of metadata

pub returns-in-Ok-open-clause-counted : goal.returns-in-Ok-open-clause-counted
returns-in-Ok-open-clause-counted g c = (refl, c.in-Ok-open.ensures.made, c.in-Ok-open.ensures.quiet, ap (λ n. n / 2) c.in-Ok-open.ensures.size)

pub returns-clause-within : goal.returns-clause-within
returns-clause-within g c = λ is. some_made 4 (g.M.MetaDisk.calls c.args.disk) (g.M.MetaDisk.calls c.in-Err-open.disk) (c.in-Err-open.ensures.stopped (was_failed c.in-Err-open.error (sym c.stop_of.ensures ∙ is)))

pub returns-clause-failed : goal.returns-clause-failed
returns-clause-failed g c = λ is. c.in-Err-open.ensures.failed (was_failed c.in-Err-open.error (sym c.stop_of.ensures ∙ is))

-- ---- the first image doesn't fit

pub returns-clause-full : goal.returns-clause-full
returns-clause-full g c = λ is.
    let empty = image_of_nothing c.args.store c.control.result.now c.all_lanes.result.now (pools_dealt 4 c.requires.begins.0) c.in-Ok.image c.control.ensures c.all_lanes.ensures c.requires.begins.1.stands c.in-Ok.ensures in
    subst (λ (i : MetaImage). half_size (g.M.MetaDisk.seen c.args.disk) < 1 + filled_size i) empty (c.in-Err-open.ensures.full (was_full c.in-Err-open.error (sym c.stop_of.ensures ∙ is)))
