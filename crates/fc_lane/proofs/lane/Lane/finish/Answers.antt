use Rattle.std.proofs.Common.{◌<◌, ◌^◌, sym, ap, subst, ◌∙◌}
use Rattle.fc_base.specs.declared.size.GrainSize.{GrainSize}
use Rattle.fc_entry.specs.Picture.{grain_of_block}
use Rattle.fc_lane.specs.Doing.{FitsAsk}
use Rattle.fc_lane.specs.Lane.{LaneView, of}
use Rattle.fc_lane.proofs.InSteps.{note_number}
use Rattle.fc_lane.proofs.Followed.{entry_followed}
use Rattle.fc_lane.proofs.lane.Lane.finish.Goals as goal
use Rattle.fc_steps.specs.Asking.{request_of}

pub note-requires : goal.note-requires
note-requires g c = record {
  number = λ part e.
      let lane = c.requires.way.0 in
      let u = c.requires.way.1 in
      let h = c.end_steps-entry.ensures.entered lane u in
      subst (λ (z : GrainSize). grain_of_block z part.block < 2 ^ 32) (sym h.same.grain) (note_number lane c.args.doing.steps.ask part u.can_write (sym h.asked.request_is ∙ e));
}

pub returns-clause-followed : goal.returns-clause-followed
returns-clause-followed g c lane u =
    entry_followed lane c.end_steps-entry.new.self c.note.new.self (FitsAsk (of lane) c.args.doing.steps.ask) c.args.doing.number c.args.doing.actor (request_of c.args.doing.steps.ask) c.end_steps-entry.result
    (c.end_steps-entry.ensures.entered lane u) c.note.ensures

pub returns-clause-told : goal.returns-clause-told
returns-clause-told g c = c.end_steps-entry.ensures.told

pub returns-clause-grains : goal.returns-clause-grains
returns-clause-grains g c = ap (λ (z : LaneView). z.grains) c.note.ensures ∙ c.end_steps-entry.ensures.grains
