-- The lines are answered by a noted store that goes on from what stands, and what they leave ends the call.
use Rattle.std.proofs.Common.{refl, sym, ◌∙◌}
use Rattle.fc_meta.specs.States.{room_of}
use Rattle.fc_metadisk.specs.Stop.{StopState}
use Rattle.fc_stopped.proofs.Opening.{opened_answers}
use Rattle.fc_stopped.proofs.Stops.{opened_left, stop_far, stop_short}
use Rattle.fc_stopped.specs.Ending.{goes_by}
use Rattle.fc_stopped.proofs.until.run_noted.Goals as goal

pub run_session-ended-requires-clause-fresh : goal.run_session-ended-requires-clause-fresh
run_session-ended-requires-clause-fresh g c =
    (goes_by c.args.call (room_of (λ (d : StopState). d.bytes) c.args.noted.meta) c.requires.stands.0, opened_answers c.args.noted c.requires.stands.0 c.args.call c.args.history.now c.requires.begun c.requires.stands.1)

pub end_far-requires-clause-left : goal.end_far-requires-clause-left
end_far-requires-clause-left g c =
    let to = opened_left c.run_session-ended.new.answers.noted c.run_session-ended.new.answers.stop refl c.run_session-ended.ensures.limit c.requires.begun c.requires.stands.1 c.run_session-ended.ensures.ends in
    (to.left.last, to.left.left, to.left.leaves)

pub end_far-requires-clause-lanes : goal.end_far-requires-clause-lanes
end_far-requires-clause-lanes g c =
    let to = opened_left c.run_session-ended.new.answers.noted c.run_session-ended.new.answers.stop refl c.run_session-ended.ensures.limit c.requires.begun c.requires.stands.1 c.run_session-ended.ensures.ends in
    (c.requires.stands.0, to.left.lanes, c.requires.stands.2)

pub end_short-requires-clause-lanes : goal.end_short-requires-clause-lanes
end_short-requires-clause-lanes g c =
    let to = opened_left c.run_session-ended.new.answers.noted c.run_session-ended.new.answers.stop refl c.run_session-ended.ensures.limit c.requires.begun c.requires.stands.1 c.run_session-ended.ensures.ends in
    (c.requires.stands.0, to.left.lanes, c.requires.stands.2)

pub returns-in-Ok-clause-ends : goal.returns-in-Ok-clause-ends
returns-in-Ok-clause-ends g c = λ old opened.
    let to = opened_left c.run_session-ended.new.answers.noted c.run_session-ended.new.answers.stop refl c.run_session-ended.ensures.limit c.requires.begun opened c.run_session-ended.ensures.ends in
    stop_far c.args.call _ _ c.run_session-ended.result c.run_session-ended.new.answers.stop to.bytes to.left.left to.left.last to.left.told to.gave to.left.holds
    c.in-Ok.far (sym c.far_of.ensures ∙ c.in-Ok.is) (c.end_far.ensures.put _ to.left.last to.left.left refl to.left.leaves) (c.end_far.ensures.disks old to.left.last to.left.lanes to.left.leaves.counted)

pub returns-in-Err-clause-ends : goal.returns-in-Err-clause-ends
returns-in-Err-clause-ends g c = λ old opened.
    let to = opened_left c.run_session-ended.new.answers.noted c.run_session-ended.new.answers.stop refl c.run_session-ended.ensures.limit c.requires.begun opened c.run_session-ended.ensures.ends in
    stop_short c.args.call _ _ c.run_session-ended.result c.run_session-ended.new.answers.stop to.bytes to.left.left to.left.last to.left.told to.gave to.left.holds
    c.in-Err.status (sym c.far_of.ensures ∙ c.in-Err.is) c.end_short.ensures.text (c.end_short.ensures.disks old to.left.last to.left.lanes to.left.leaves.counted)
