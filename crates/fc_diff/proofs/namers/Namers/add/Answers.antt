use Rattle.std.proofs.Common.{sym, ◌∙◌}
use Rattle.std.proofs.lemmas.Result.{on_ok_weaker, on_err_weaker}
use Rattle.fc_diff.proofs.Naming.{here_by_change, kept_by_change, same_by_change}
use Rattle.fc_diff.proofs.namers.Namers.add.Goals as goal

pub returns-in-Some-clause-added : goal.returns-in-Some-clause-added
returns-in-Some-clause-added c =
    on_ok_weaker c.add_number.result
    (here_by_change c.self.inside.volumes.keys c.self.inside.lists.items c.args.self.now c.self.view_is c.self.invariant c.args.volume c.in-Some.place
    (sym c.get_index_of.ensures.index ∙ c.in-Some.is) c.add_number.new.list c.args.map) c.add_number.ensures.added

pub returns-in-Some-clause-kept : goal.returns-in-Some-clause-kept
returns-in-Some-clause-kept c w m =
    kept_by_change c.self.inside.volumes.keys c.self.inside.lists.items c.args.self.now c.self.view_is c.self.invariant c.args.volume c.in-Some.place
    (sym c.get_index_of.ensures.index ∙ c.in-Some.is) c.index_mut.result.now c.add_number.new.list c.index_mut.ensures.value w m (c.add_number.ensures.kept m)

pub returns-in-Some-clause-err : goal.returns-in-Some-clause-err
returns-in-Some-clause-err c =
    on_err_weaker c.add_number.result
    (same_by_change c.self.inside.volumes.keys c.self.inside.lists.items c.args.self.now c.self.view_is c.self.invariant c.args.volume c.in-Some.place
    (sym c.get_index_of.ensures.index ∙ c.in-Some.is) c.index_mut.result.now c.add_number.new.list c.index_mut.ensures.value) c.add_number.ensures.err
