use Rattle.std.proofs.Common.{◌-◌, ◌≤◌, ◌≢◌, List, sym, subst, take, drop, length, All}
use Rattle.std.proofs.lemmas.List.{take_rest}
use Rattle.fc_changed.specs.Row.{Row}
use Rattle.fc_diff.proofs.Found.{found_take}
use Rattle.fc_diff.proofs.table.Table.truncate.Goals as goal

pub invariant_of-self : goal.invariant_of-self
invariant_of-self c =
    let rows = c.self.inside.rows.items in
    found_take c.self.inside.ids.keys c.self.inside.namers c.unlist.new.namers rows c.args.first
    (subst (λ (rs : List Row). c.args.first ≤ length rs) (sym c.self.view_is) c.requires) c.self.invariant
    (λ w m others there. c.unlist.ensures w m (subst (λ (rs : List Row). All (λ row. m ≢ row.map) (take (length rs - c.args.first) (drop c.args.first rs))) (sym c.deref.ensures.value)
    (subst (All (λ (row : Row). m ≢ row.map)) (sym (take_rest rows c.args.first)) others)) there)
    c.truncate.new.self.keys c.truncate-2.new.self.items c.truncate.ensures.keys c.truncate-2.ensures.items
