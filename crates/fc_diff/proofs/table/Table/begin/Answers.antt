use Rattle.std.proofs.Common.{◌≡◌, ◌<◌, List, sym, ◌∙◌, ap, subst, map, set, length}
use Rattle.fc_changed.specs.Row.{Row}
use Rattle.fc_diff.specs.Index.{new_of, begun_at}
use Rattle.fc_diff.proofs.Found.{found_same, begun_same, begun_is}
use Rattle.fc_diff.proofs.table.Table.begin.Goals as goal

is_begun : (c : goal.After-self-1) → set c.self.inside.rows.items c.args.place c.begin.new.self ≡ begun_at c.args.place c.self.inside.rows.items
is_begun c =
    begun_is c.self.inside.rows.items c.args.place c.index_mut.result.now c.begin.new.self
    (subst (λ (rows : List Row). c.args.place < length rows) (sym c.self.view_is) c.requires) c.index_mut.ensures.value c.begin.ensures

pub invariant_of-self : goal.invariant_of-self
invariant_of-self c =
    found_same c.self.inside.ids.keys c.self.inside.namers c.self.inside.rows.items _ (ap (map new_of) (is_begun c) ∙ begun_same c.args.place c.self.inside.rows.items) c.self.invariant

pub returns-clause-rows : goal.returns-clause-rows
returns-clause-rows c = is_begun c ∙ ap (begun_at c.args.place) c.self.view_is
