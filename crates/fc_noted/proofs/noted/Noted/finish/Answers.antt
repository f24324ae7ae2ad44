-- The entry of steps that are over is right, and is logged; or memory was wanted for it.
use Rattle.std.proofs.Common.{Option, Some, ap, ◌∙◌, arith}
use Rattle.fc_base.specs.declared.ids.VolId.{VolId}
use Rattle.fc_legal.specs.Steps.{after_access}
use Rattle.law_noted.proofs.HandEnds.{told_of}
use Rattle.law_noted.specs.Going.{marks_left}
use Rattle.fc_noted.proofs.Ended.{doing_taken, finish_made, stands_next}
use Rattle.fc_noted.proofs.KeepingLanes.{holds_in_lane, lanes_go_on, lanes_still}
use Rattle.fc_noted.proofs.MeteringNoted.{memory_alone, no_calls}
use Rattle.fc_noted.proofs.noted.Noted.finish.Goals as goal

pub log_entry-requires-clause-stands : goal.log_entry-requires-clause-stands
log_entry-requires-clause-stands g c =
    let a = c.requires.at in
    let d = doing_taken g.M.MetaDisk.seen g.M.MetaDisk.may_leave c.args.self.now c.args.way (Some c.args.way) c.args.history.now a.0 a.1 a.2 in
    let x = told_of _ _ c.args.way.doing c.finish-entry.result c.finish-entry.ensures.told in (
      after_access d.begun.control.grain a.0 c.args.way.place c.finish-entry.result,
      stands_next g.M.MetaDisk.seen g.M.MetaDisk.may_leave c.args.self.now c.args.way c.requires.due c.requires.over c.finish-entry.new.self c.finish-entry.result x (omega arith)
          c.finish-entry.ensures.entry c.finish-entry.ensures.grains c.finish-entry.ensures.others c.args.history.now a.0 a.1 d,
    )

pub returns-clause-made : goal.returns-clause-made
returns-clause-made g c =
    let x = told_of _ _ c.args.way.doing c.finish-entry.result c.finish-entry.ensures.told in
    finish_made g.M.MetaDisk.seen g.M.MetaDisk.may_leave c.args.self.now c.args.way c.requires.due c.requires.over c.finish-entry.new.self c.finish-entry.result x (omega arith)
    c.finish-entry.ensures.entry c.finish-entry.ensures.grains c.finish-entry.ensures.others g.M.MetaDisk.moment g.M.MetaDisk.left_since g.M.MetaDisk.calls g.met.M.MetaDisk.only_now c.requires.live c.requires.taken
    c.forget_noted.new.marks (c.forget_noted.ensures ∙ ap (λ (o : Option VolId). marks_left o c.args.way.doing.steps.grain c.args.self.now.marks.items) c.volume_noted-written.ensures) c.log_entry.new.self c.log_entry.ensures.others c.log_entry.result c.args.history.now c.log_entry.new.history
    c.log_entry.ensures.logged c.log_entry.ensures.goes c.log_entry.ensures.unlogged c.log_entry.ensures.stop

pub returns-clause-lanes : goal.returns-clause-lanes
returns-clause-lanes g c =
    lanes_go_on c.args.self.now.store c.finish-entry.new.self c.log_entry.new.self.store
    (holds_in_lane c.args.way.place c.args.self.now.store c.finish-entry.new.self c.finish-entry.ensures.others c.finish-entry.ensures.grains)
    (lanes_still c.finish-entry.new.self c.log_entry.new.self.store (ap (λ n. n.store) c.log_entry.ensures.others))

pub returns-clause-counted : goal.returns-clause-counted
returns-clause-counted g c =
    no_calls g.M.MetaDisk.seen g.M.MetaDisk.fault_count g.M.MetaDisk.calls c.log_entry.result c.args.self.now c.log_entry.new.self (ap (λ n. n.calls) c.log_entry.ensures.others) (ap (λ n. n.meta) c.log_entry.ensures.others)
    (memory_alone c.log_entry.result c.log_entry.ensures.stop)
