use Rattle.std.proofs.Common.{◌≡◌, List, sym, ◌∙◌, ap, map, ◌++◌, take, drop, length}
use Rattle.fc_changed.specs.Row.{Row}
use Rattle.fc_diff.specs.Told.{row_after}
use Rattle.fc_diff.specs.Index.{new_of}
use Rattle.std.proofs.lemmas.List.{length-map}
use Rattle.fc_diff.proofs.Found.{found_same, told_same, put_back}
use Rattle.fc_diff.proofs.table.Table.tell.Goals as goal

pub invariant_of-self : goal.invariant_of-self
invariant_of-self c =
    let rows = c.self.inside.rows.items in
    let told : c.tell_first.new.rows ≡ map (row_after c.args.event) (take c.args.first rows) ++ drop c.args.first rows =
    c.tell_first.ensures ∙ ap (λ (rs : List Row). map (row_after c.args.event) (take c.args.first rs) ++ drop c.args.first rs) c.deref_mut.ensures.value in
    let alike : map new_of c.tell_first.new.rows ≡ map new_of rows = ap (map new_of) told ∙ told_same c.args.event rows c.args.first in
    let size : c.self.inside.rows.len ≡ length rows = sym c.deref_mut.ensures.len ∙ ap (λ xs. length xs) c.deref_mut.ensures.value in
    let same : length c.tell_first.new.rows ≡ length rows = sym (length-map c.tell_first.new.rows new_of) ∙ (ap (λ ns. length ns) alike ∙ length-map rows new_of) in
    found_same c.self.inside.ids.keys c.self.inside.namers rows _ (ap (map new_of) (put_back rows c.tell_first.new.rows c.self.inside.rows.len size same) ∙ alike) c.self.invariant
