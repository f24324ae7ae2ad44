use Rattle.std.proofs.Common.{◌≡◌, fold, subst, sym, ap, ◌∙◌, List, arith}
use Rattle.std.proofs.lemmas.List.{with_items_is}
use Rattle.std.specs.Vec.{with_items}
use Rattle.fc_base.specs.Room.{rooms_after}
use Rattle.fc_base.specs.declared.decision.LaneEvent.{LaneEvent}
use Rattle.fc_books.specs.After.{pools_after}
use Rattle.fc_check_record.proofs.Leaving.{AreLeft, left_told, one_left}
use Rattle.fc_check_record.specs.Judged.{Judged}
use Rattle.fc_check_sheet.specs.View.{pools_of}
use Rattle.fc_check_sheet.specs.declared.pool.LanePool.{LanePool}
use Rattle.fc_desk.specs.Changes.{FitChanges}
use Rattle.fc_check_record.proofs.record.Record.leave.Goals as goal

pub leave_control-requires : goal.leave_control-requires
leave_control-requires c = record {
  one = c.requires.one;
  fits = subst (λ (j : Judged). FitChanges j.whole.books.tables c.args.decision.now.changes) (sym c.self.view_is) c.requires.fits;
  countable = c.requires.countable;
}

-- the disks that are left
pools_left : (c : goal.After-kept-1) → pools_of (with_items c.self.inside.kept.pools c.take_for_all.new.pools).items ≡ fold pools_after (pools_of c.self.inside.kept.pools.items) c.args.decision.now.events
pools_left c =
    ap pools_of (with_items_is c.self.inside.kept.pools c.take_for_all.new.pools (omega arith))
    ∙ (c.take_for_all.ensures
    ∙ (ap (λ (events : List LaneEvent). fold pools_after (pools_of c.as_mut_slice.result.now) events) c.as_slice-2.ensures
    ∙ ap (λ (lanes : List LanePool). fold pools_after (pools_of lanes) c.args.decision.now.events) c.as_mut_slice.ensures.value))

-- each part is what the decision leaves
left : (c : goal.After-kept-1) →
    AreLeft c.self.inside.kept.control c.leave_control.new.control c.self.inside.kept.known c.leave_known.new.known c.self.inside.kept.rows c.leave_known.new.rows (pools_of c.self.inside.kept.pools.items)
    (pools_of (with_items c.self.inside.kept.pools c.take_for_all.new.pools).items) c.self.inside.kept.rooms c.follow_events.new.self c.args.decision.now
left c = record {
  books = c.in_ok-leave_control.ensures.books;
  grain = c.in_ok-leave_control.ensures.grain;
  known_is = c.in_ok-leave_known.ensures.known;
  rows_are = c.in_ok-leave_known.ensures.rows;
  pools_are = pools_left c;
  rooms_are = c.in_ok-follow_events.ensures ∙ ap (fold (rooms_after (λ grains. grains)) c.self.inside.kept.rooms) c.as_slice.ensures;
}

pub invariant_of-result : goal.invariant_of-result
invariant_of-result c =
    one_left c.self.inside.kept.control c.leave_control.new.control c.self.inside.kept.known c.leave_known.new.known c.self.inside.kept.rows c.leave_known.new.rows (pools_of c.self.inside.kept.pools.items)
    (pools_of (with_items c.self.inside.kept.pools c.take_for_all.new.pools).items) c.self.inside.kept.rooms c.follow_events.new.self c.self.inside.kept.calls.items c.args.decision.now c.self.invariant (left c)

pub returns : goal.returns
returns c =
    left_told c.self.inside.kept.control c.leave_control.new.control c.self.inside.kept.known c.leave_known.new.known c.self.inside.kept.rows c.leave_known.new.rows (pools_of c.self.inside.kept.pools.items)
    (pools_of (with_items c.self.inside.kept.pools c.take_for_all.new.pools).items) c.self.inside.kept.rooms c.follow_events.new.self c.self.inside.kept.calls.items c.args.self c.args.decision.now c.self.view_is c.requires.triggers (left c)
