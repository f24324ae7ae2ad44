use Rattle.std.proofs.Common.{sym, ◌∙◌, ap, take, is_some}
use Rattle.std.specs.List.{list_any}
use Rattle.fc_changed.specs.Row.{is_of, restart_in}
use Rattle.fc_diff.specs.State.{ChangesState}
use Rattle.fc_diff.proofs.States.{place_is, restart_found}
use Rattle.fc_diff.proofs.changes.Changes.restart.Goals as goal

pub returns-in-Some-clause-followed : goal.returns-in-Some-clause-followed
returns-in-Some-clause-followed c =
    let m = c.args.map.0 in
    sym (ap is_some (sym c.place_of.ensures ∙ c.in-Some.is)) ∙ (place_is m (take c.self.inside.followed c.self.inside.table) ∙ ap (λ (s : ChangesState). list_any (is_of m) s.rows) c.self.view_is)

pub returns-in-Some-clause-grains : goal.returns-in-Some-clause-grains
returns-in-Some-clause-grains c =
    let m = c.args.map.0 in
    restart_found m c.self.inside.followed c.in-Some.place c.self.inside.table c.same.result.now (sym c.place_of.ensures ∙ c.in-Some.is) c.same.ensures
    ∙ ap (λ (s : ChangesState). restart_in m s.rows) c.self.view_is

pub returns-in-None-clause-followed : goal.returns-in-None-clause-followed
returns-in-None-clause-followed c =
    let m = c.args.map.0 in
    sym (ap is_some (sym c.place_of.ensures ∙ c.in-None.is)) ∙ (place_is m (take c.self.inside.followed c.self.inside.table) ∙ ap (λ (s : ChangesState). list_any (is_of m) s.rows) c.self.view_is)
