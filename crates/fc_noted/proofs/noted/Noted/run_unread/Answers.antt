-- The fault is told.
use Rattle.std.proofs.Common.{Err, ap, ◌∙◌}
use Rattle.fc_noted.proofs.Lines.{line_answered, line_halted, ran_behind}
use Rattle.fc_noted.proofs.noted.Noted.run_unread.Goals as goal

pub begin_unread-requires : goal.begin_unread-requires
begin_unread-requires g c = record { at = (c.args.history.now, c.requires.begins.w, c.requires.begins.least, c.requires.begins.at) }

pub make_all-requires : goal.make_all-requires
make_all-requires g c =
    let b = c.requires.begins in
    record {
      begins = record {
        live = ap (λ n. n.live) c.begin_unread.ensures.others ∙ b.live;
        w = b.w;
        least = b.least;
        at = c.begin_unread.ensures.at c.args.history.now b.w b.least b.at;
        room = b.room;
      };
    }

pub returns-clause-answered : goal.returns-clause-answered
returns-clause-answered g c =
    line_answered g.M.MetaDisk.seen g.M.MetaDisk.may_leave g.M.MetaDisk.fault_count g.M.MetaDisk.calls c.args.self.now c.begin_unread.new.self c.args.history.now (Err c.args.fault) c.begin_unread.ensures.others c.begin_unread.ensures.line
    c.begin_unread.ensures.at c.make_all.new.self c.make_all.new.history c.make_all.result c.make_all.ensures.answered

pub returns-clause-halted : goal.returns-clause-halted
returns-clause-halted g c =
    line_halted g.M.MetaDisk.seen g.M.MetaDisk.may_leave g.M.MetaDisk.fault_count g.M.MetaDisk.calls c.args.self.now c.begin_unread.new.self c.args.history.now (Err c.args.fault) c.begin_unread.ensures.others c.begin_unread.ensures.line
    c.begin_unread.ensures.at c.make_all.new.self c.make_all.new.history c.make_all.result c.make_all.ensures.halted

pub returns-clause-ran : goal.returns-clause-ran
returns-clause-ran g c = ran_behind g.M.MetaDisk.seen g.M.MetaDisk.fault_count g.M.MetaDisk.calls c.make_all.result c.args.self.now c.begin_unread.new.self c.make_all.new.self c.make_all.new.history c.begin_unread.ensures.others c.make_all.ensures.ran
