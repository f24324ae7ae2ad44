use Rattle.std.proofs.Common.{◌<◌, ℕ, ap, sym, subst, ◌∙◌}
use Rattle.fc_base.specs.declared.request.Pick.TheVariants.{Any}
use Rattle.fc_base.specs.declared.request.Request.{Request}
use Rattle.fc_entry.specs.declared.entry.Entry.{Entry}
use Rattle.fc_lane.specs.Lane.{LaneView, of}
use Rattle.fc_lane.specs.Turns.{CanPick}
use Rattle.fc_lane.specs.Workers.{filled_slot, turn_of}
use Rattle.fc_lane.proofs.InSteps.{turn_entered, turn_number}
use Rattle.fc_lane.proofs.Followed.{entry_followed}
use Rattle.fc_lane.proofs.Turns.{turned}
use Rattle.fc_lane.proofs.lane.Lane.finish_turn.Goals as goal

pub note-requires : goal.note-requires
note-requires g c = record {
  number = λ part e.
      let turn = c.turn_of-turn.ensures ∙ ap (λ (z : LaneView). turn_of c.args.worker z.lane) c.self.view_is in
      let is = c.turned-entry.ensures ∙ ap (λ (q : Request). turned q c.end_steps-ended.result) turn in
      turn_number c.args.worker c.args.self.now.lane part _ (sym (ap (λ (z : Entry). z.request) is) ∙ e);
}

pub returns : goal.returns
returns g c lane m grain u is next =
    let d = c.args.doing in
    let w = c.args.worker in
    let inside_now = subst (λ (z : LaneView). z.lane < z.lanes) c.self.view_is c.self.invariant in
    let inside = subst (λ (n : ℕ). lane.lane < n) u.beside.lanes (subst (λ (n : ℕ). n < c.args.self.now.lanes) u.beside.lane inside_now) in
    let turn = c.turn_of-turn.ensures ∙ (ap (λ (z : LaneView). turn_of w z.lane) c.self.view_is ∙ ap (λ (n : ℕ). turn_of w n) u.beside.lane) in
    let ended = c.end_steps-ended in
    entry_followed lane ended.new.self c.note.new.self (λ told. CanPick (of lane) (filled_slot w told.sheet.slots) Any) d.number d.actor (turn_of w lane.lane) c.turned-entry.result
    (turn_entered w lane ended.new.self d.steps.ask d.number d.actor m grain ended.result c.turned-entry.result inside next is (ended.ensures.entered lane u) (c.turned-entry.ensures ∙ ap (λ (q : Request). turned q ended.result) turn)) c.note.ensures
