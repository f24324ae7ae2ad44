use Rattle.std.proofs.Common.{sym, ◌∙◌}
use Rattle.fc_diff.specs.Index.{is_listed, numbers, list_of}
use Rattle.fc_diff.proofs.Naming.{kept_by_change, kept_by_going}
use Rattle.fc_diff.proofs.namers.Namers.remove.Goals as goal

pub returns-then-take_number : goal.returns-then-take_number
returns-then-take_number c w m other there =
    (λ k. is_listed m (list_of (c.shift_remove_index.ensures.keys k) (numbers (c.remove.ensures.items k)) w))
    ∙ kept_by_going c.self.inside.volumes.keys c.self.inside.lists.items c.args.self.now c.self.view_is c.self.invariant c.args.volume c.in-Some.place
    (sym c.get_index_of.ensures.index ∙ c.in-Some.is) c.index_mut.result.now c.take_number.new.list c.index_mut.ensures.value (c.take_number.ensures.empty c.if-take_number.true) w m
    (c.take_number.ensures.kept m other) there

pub returns-else-take_number : goal.returns-else-take_number
returns-else-take_number c w m other =
    kept_by_change c.self.inside.volumes.keys c.self.inside.lists.items c.args.self.now c.self.view_is c.self.invariant c.args.volume c.in-Some.place
    (sym c.get_index_of.ensures.index ∙ c.in-Some.is) c.index_mut.result.now c.take_number.new.list c.index_mut.ensures.value w m
    (c.take_number.ensures.kept m other)
