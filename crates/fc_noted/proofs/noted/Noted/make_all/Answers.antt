-- Step by step.
use Rattle.std.proofs.Common.{false, Err, refl}
use Rattle.fc_marks.specs.declared.error.NotedStop.TheVariants.{NoMemory}
use Rattle.fc_noted.proofs.Calling.{calls_before, calls_behind, calls_of}
use Rattle.fc_noted.proofs.Halting.{halted, halted_limit, halted_on}
use Rattle.fc_noted.proofs.KeepingLanes.{lanes_go_on, lanes_stay}
use Rattle.fc_noted.proofs.Lines.{all_made, all_over, comes_first, comes_on, not_live}
use Rattle.fc_noted.proofs.MeteringNoted.{no_calls}
use Rattle.fc_noted.specs.Making.{done}
use Rattle.fc_noted.proofs.noted.Noted.make_all.Goals as goal

pub steps-init : goal.steps-init
steps-init g c =
    record {
      comes = comes_first g.M.MetaDisk.seen g.M.MetaDisk.may_leave c.args.self.now c.args.history.now c.requires.begins.w c.requires.begins.least c.requires.begins.at c.requires.begins.live c.requires.begins.room;
      lanes = lanes_stay c.args.self.now.store;
      counted = no_calls g.M.MetaDisk.seen g.M.MetaDisk.fault_count g.M.MetaDisk.calls done c.args.self.now c.args.self.now refl refl (λ told. cc);
    }

pub make_step-requires : goal.make_step-requires
make_step-requires g c = record { can = c.steps.invariant.comes.can }

pub steps-preserved : goal.steps-preserved
steps-preserved g c =
    record {
      comes =
          comes_on g.M.MetaDisk.seen g.M.MetaDisk.may_leave c.args.self.now c.steps.self c.args.history.now c.steps.history c.steps.invariant.comes c.make_step.new.self c.make_step.new.history
          c.in-Ok-true.field-0-test c.in-Ok-true.ensures.made.on;
      lanes = lanes_go_on c.args.self.now.store c.steps.self.store c.make_step.new.self.store c.steps.invariant.lanes c.in-Ok-true.ensures.lanes;
      counted =
          calls_behind g.M.MetaDisk.seen g.M.MetaDisk.fault_count g.M.MetaDisk.calls done c.args.self.now c.steps.self c.make_step.new.self c.steps.invariant.counted
          (calls_of g.M.MetaDisk.seen g.M.MetaDisk.fault_count g.M.MetaDisk.calls tt c.steps.self c.make_step.new.self c.in-Ok-true.ensures.counted);
    }

pub returns-in-Ok-false-clause-answered : goal.returns-in-Ok-false-clause-answered
returns-in-Ok-false-clause-answered g c =
    all_made g.M.MetaDisk.seen g.M.MetaDisk.may_leave c.args.self.now c.steps.self c.args.history.now c.steps.history c.steps.invariant.comes c.make_step.new.self c.make_step.new.history
    c.in-Ok-false.field-0-test c.in-Ok-false.ensures.made.on

pub returns-in-Err-clause-halted : goal.returns-in-Err-clause-halted
returns-in-Err-clause-halted g c =
    halted g.M.MetaDisk.seen g.M.MetaDisk.may_leave g.M.MetaDisk.moment g.M.MetaDisk.left_since g.M.MetaDisk.fault_count g.M.MetaDisk.calls c.args.self.now c.steps.self c.args.history.now c.steps.history c.steps.invariant.comes c.steps.invariant.counted
    c.make_step.new.self c.make_step.new.history c.in-Err.stop c.in-Err.ensures.made c.in-Err.ensures.full c.in-Err.ensures.counted.size

pub returns-clause-halted : goal.returns-clause-halted
returns-clause-halted g c =
    halted_on g.M.MetaDisk.seen g.M.MetaDisk.may_leave g.M.MetaDisk.moment g.M.MetaDisk.left_since g.M.MetaDisk.fault_count g.M.MetaDisk.calls c.args.self.now c.steps.self c.args.history.now c.steps.history c.steps.invariant.comes c.steps.invariant.counted

pub returns-in-Ok-false-clause-ran : goal.returns-in-Ok-false-clause-ran
returns-in-Ok-false-clause-ran g c =
    let all = all_over g.M.MetaDisk.seen g.M.MetaDisk.may_leave c.args.self.now c.steps.self c.args.history.now c.steps.history c.steps.invariant.comes c.make_step.new.self c.make_step.new.history
    c.in-Ok-false.field-0-test c.in-Ok-false.ensures.made.on in
    record {
      grain = all.0;
      lanes = lanes_go_on c.args.self.now.store c.steps.self.store c.make_step.new.self.store c.steps.invariant.lanes c.in-Ok-false.ensures.lanes;
      counted =
          calls_behind g.M.MetaDisk.seen g.M.MetaDisk.fault_count g.M.MetaDisk.calls done c.args.self.now c.steps.self c.make_step.new.self c.steps.invariant.counted
          (calls_of g.M.MetaDisk.seen g.M.MetaDisk.fault_count g.M.MetaDisk.calls tt c.steps.self c.make_step.new.self c.in-Ok-false.ensures.counted);
      live = all.1;
      stopped = tt;
      limit = all.2;
    }

pub returns-in-Err-clause-ran : goal.returns-in-Err-clause-ran
returns-in-Err-clause-ran g c =
    record {
      grain = tt;
      lanes = lanes_go_on c.args.self.now.store c.steps.self.store c.make_step.new.self.store c.steps.invariant.lanes c.in-Err.ensures.lanes;
      counted =
          calls_behind g.M.MetaDisk.seen g.M.MetaDisk.fault_count g.M.MetaDisk.calls (Err c.in-Err.stop) c.args.self.now c.steps.self c.make_step.new.self c.steps.invariant.counted
          (calls_before g.M.MetaDisk.seen g.M.MetaDisk.fault_count g.M.MetaDisk.calls c.in-Err.stop c.steps.self c.make_step.new.self c.in-Err.ensures.counted);
      live = tt;
      stopped = not_live c.make_step.new.self.live c.in-Err.ensures.live;
      limit =
          halted_limit g.M.MetaDisk.seen g.M.MetaDisk.may_leave g.M.MetaDisk.moment g.M.MetaDisk.left_since g.M.MetaDisk.fault_count g.M.MetaDisk.calls c.args.self.now c.steps.self c.args.history.now c.steps.history c.steps.invariant.comes c.steps.invariant.counted
          c.make_step.new.self c.make_step.new.history c.in-Err.stop c.in-Err.ensures.made;
    }

pub returns-clause-ran : goal.returns-clause-ran
returns-clause-ran g c =
    record {
      grain = tt;
      lanes = c.steps.invariant.lanes;
      counted =
          calls_behind g.M.MetaDisk.seen g.M.MetaDisk.fault_count g.M.MetaDisk.calls (Err NoMemory) c.args.self.now c.steps.self (record c.steps.self { live = false }) c.steps.invariant.counted
          (no_calls g.M.MetaDisk.seen g.M.MetaDisk.fault_count g.M.MetaDisk.calls (Err NoMemory) c.steps.self (record c.steps.self { live = false }) refl refl (λ told. cc));
      live = tt;
      stopped = refl;
      limit = c.steps.invariant.comes.can.room;
    }
