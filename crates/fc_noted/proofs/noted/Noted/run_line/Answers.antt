-- What its script asks is answered, if it has one.
use Rattle.std.proofs.Common.{Ok, ap, ◌∙◌}
use Rattle.fc_noted.proofs.Halting.{not_taken_up}
use Rattle.fc_noted.proofs.Lines.{line_answered, line_halted, ran_behind, ran_not}
use Rattle.fc_noted.proofs.noted.Noted.run_line.Goals as goal

pub begin_line-requires : goal.begin_line-requires
begin_line-requires g c = record { at = (c.args.history.now, c.requires.begins.w, c.requires.begins.least, c.requires.begins.at) }

pub make_all-requires : goal.make_all-requires
make_all-requires g c =
    let b = c.requires.begins in
    record {
      begins = record {
        live = ap (λ n. n.live) c.begin_line.ensures.others ∙ b.live;
        w = b.w;
        least = b.least;
        at = c.begin_line.ensures.at c.args.history.now b.w b.least b.at;
        room = b.room;
      };
    }

pub returns-in-Ok-clause-answered : goal.returns-in-Ok-clause-answered
returns-in-Ok-clause-answered g c =
    line_answered g.M.MetaDisk.seen g.M.MetaDisk.may_leave g.M.MetaDisk.fault_count g.M.MetaDisk.calls c.args.self.now c.begin_line.new.self c.args.history.now (Ok c.args.line) c.begin_line.ensures.others c.in-Ok.ensures.line
    c.begin_line.ensures.at c.make_all.new.self c.make_all.new.history c.make_all.result c.make_all.ensures.answered

pub returns-in-Ok-clause-halted : goal.returns-in-Ok-clause-halted
returns-in-Ok-clause-halted g c =
    line_halted g.M.MetaDisk.seen g.M.MetaDisk.may_leave g.M.MetaDisk.fault_count g.M.MetaDisk.calls c.args.self.now c.begin_line.new.self c.args.history.now (Ok c.args.line) c.begin_line.ensures.others c.in-Ok.ensures.line
    c.begin_line.ensures.at c.make_all.new.self c.make_all.new.history c.make_all.result c.make_all.ensures.halted

pub returns-in-Ok-clause-ran : goal.returns-in-Ok-clause-ran
returns-in-Ok-clause-ran g c = ran_behind g.M.MetaDisk.seen g.M.MetaDisk.fault_count g.M.MetaDisk.calls c.make_all.result c.args.self.now c.begin_line.new.self c.make_all.new.self c.make_all.new.history c.begin_line.ensures.others c.make_all.ensures.ran

pub returns-in-Err-clause-halted : goal.returns-in-Err-clause-halted
returns-in-Err-clause-halted g c = not_taken_up g.M.MetaDisk.seen g.M.MetaDisk.may_leave g.M.MetaDisk.fault_count g.M.MetaDisk.calls c.args.self.now c.begin_line.new.self c.args.history.now c.in-Err.ensures.refused c.requires.begins.room (Ok c.args.line)

pub returns-in-Err-clause-ran : goal.returns-in-Err-clause-ran
returns-in-Err-clause-ran g c = ran_not g.M.MetaDisk.seen g.M.MetaDisk.fault_count g.M.MetaDisk.calls c.args.self.now c.begin_line.new.self c.args.history.now c.in-Err.ensures.refused c.requires.begins.room
