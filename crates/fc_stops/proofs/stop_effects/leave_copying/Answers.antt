-- Its target is cut, and it ends.
use Rattle.std.proofs.Common.{◌∙◌, ap}
use Rattle.fc_base.specs.States.{next_state}
use Rattle.fc_base.specs.declared.state.MapState.TheVariants.{Copying}
use Rattle.fc_base.specs.declared.volume.Mapping.{Mapping}
use Rattle.fc_books.specs.Copies.{is_whole}
use Rattle.fc_books.specs.Stopping.{stop_event}
use Rattle.fc_desk.specs.Control.{books_of}
use Rattle.fc_desk.specs.Outcome.{ok_of}
use Rattle.fc_stops.proofs.StopParts.{leave_put, on_ok_by}
use Rattle.fc_stops.proofs.stop_effects.leave_copying.Goals as goal

pub returns : goal.returns
returns g c =
    let b = books_of c.args.control.now (g.S.Sheet.meaning c.args.sheet.now) in
    let m = c.args.mapping.now in
    on_ok_by c.end_stopped.result
    (leave_put (next_state Copying (stop_event c.args.way) (is_whole b m) c.args.needed) b m c.in_ok-left.left c.stopped.result c.args.draft.now c.cut.new.draft c.end_stopped.new.draft
    c.in_ok-cut.ensures c.in_ok-left.ensures
    (c.stopped.ensures ∙ ap (λ w. ok_of (next_state Copying (stop_event c.args.way) w c.args.needed)) (ap (λ (x : Mapping). x.complete) c.in_ok-left.ensures)))
    c.end_stopped.ensures
