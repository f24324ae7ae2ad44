use Rattle.std.proofs.Common.{◌≡◌, ◌≤◌, List, sym, ◌∙◌, ap, subst, take, drop, length, filter, not, ◌++◌, position, Some, None}
use Rattle.fc_changed.specs.Row.{Row, is_of}
use Rattle.fc_diff.specs.Index.{map_numbers}
use Rattle.fc_diff.proofs.Found.{first_ids, found_remove, place_in_all, forgot, forgot_left, stayed, stayed_left}
use Rattle.fc_diff.proofs.table.Table.forget.Goals as goal

pub find_place-requires : goal.find_place-requires
find_place-requires c =
    subst (λ (rows : List Row). take (length (take c.args.first rows)) c.self.inside.ids.keys ≡ map_numbers (take c.args.first rows)) (sym c.deref.ensures.value)
    (first_ids c.self.inside.ids.keys c.self.inside.rows.items c.args.first c.self.invariant.beside)

pub invariant_of-self : goal.invariant_of-self
invariant_of-self c =
    let m = c.args.map in
    let rows = c.self.inside.rows.items in
    let found : position (is_of m) (take c.args.first rows) ≡ Some c.in-Some.place = ap (λ (rs : List Row). position (is_of m) (take c.args.first rs)) (sym c.deref.ensures.value) ∙ (sym c.find_place.ensures ∙ c.in-Some.is) in
    found_remove c.self.inside.ids.keys c.self.inside.namers c.remove-in-Some.new.self rows m c.in-Some.place c.remove-row.result c.self.invariant
    (place_in_all m rows c.args.first c.in-Some.place c.remove-row.result found)
    (λ w n other there. c.remove-in-Some.ensures w n other (c.remove.ensures w n other there))
    c.shift_remove_index.new.self.keys c.remove-row.new.self.items c.shift_remove_index.ensures.keys c.remove-row.ensures.items

pub returns-in-Some-clause-rows : goal.returns-in-Some-clause-rows
returns-in-Some-clause-rows c =
    let m = c.args.map in
    let rows = c.self.inside.rows.items in
    let found : position (is_of m) (take c.args.first rows) ≡ Some c.in-Some.place = ap (λ (rs : List Row). position (is_of m) (take c.args.first rs)) (sym c.deref.ensures.value) ∙ (sym c.find_place.ensures ∙ c.in-Some.is) in
    c.remove-row.ensures.items
    ∙ (forgot m rows c.args.first c.in-Some.place c.remove-row.result c.self.invariant.distinct found
    ∙ ap (λ (rs : List Row). filter (λ row. not (is_of m row)) (take c.args.first rs) ++ drop c.args.first rs) c.self.view_is)

pub returns-in-Some-clause-left : goal.returns-in-Some-clause-left
returns-in-Some-clause-left c =
    let m = c.args.map in
    let rows = c.self.inside.rows.items in
    let found : position (is_of m) (take c.args.first rows) ≡ Some c.in-Some.place = ap (λ (rs : List Row). position (is_of m) (take c.args.first rs)) (sym c.deref.ensures.value) ∙ (sym c.find_place.ensures ∙ c.in-Some.is) in
    forgot_left m rows c.args.first c.in-Some.place c.remove-row.result (subst (λ (rs : List Row). c.args.first ≤ length rs) (sym c.self.view_is) c.requires) c.self.invariant.distinct found
    ∙ ap (λ (rs : List Row). length (filter (λ row. not (is_of m row)) (take c.args.first rs))) c.self.view_is

pub returns-in-None-clause-rows : goal.returns-in-None-clause-rows
returns-in-None-clause-rows c =
    let m = c.args.map in
    let rows = c.self.inside.rows.items in
    let missed : position (is_of m) (take c.args.first rows) ≡ None = ap (λ (rs : List Row). position (is_of m) (take c.args.first rs)) (sym c.deref.ensures.value) ∙ (sym c.find_place.ensures ∙ c.in-None.is) in
    sym c.self.view_is
    ∙ (stayed m rows c.args.first missed ∙ ap (λ (rs : List Row). filter (λ row. not (is_of m row)) (take c.args.first rs) ++ drop c.args.first rs) c.self.view_is)

pub returns-in-None-clause-left : goal.returns-in-None-clause-left
returns-in-None-clause-left c =
    let m = c.args.map in
    let rows = c.self.inside.rows.items in
    let missed : position (is_of m) (take c.args.first rows) ≡ None = ap (λ (rs : List Row). position (is_of m) (take c.args.first rs)) (sym c.deref.ensures.value) ∙ (sym c.find_place.ensures ∙ c.in-None.is) in
    stayed_left m rows c.args.first (subst (λ (rs : List Row). c.args.first ≤ length rs) (sym c.self.view_is) c.requires) missed
    ∙ ap (λ (rs : List Row). length (filter (λ row. not (is_of m row)) (take c.args.first rs))) c.self.view_is
