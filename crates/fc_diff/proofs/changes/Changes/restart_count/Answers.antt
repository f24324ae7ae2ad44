use Rattle.std.proofs.Common.{sym, ◌∙◌, ap, take}
use Rattle.fc_bits.specs.Grains.{count_set}
use Rattle.fc_changed.specs.Row.{restart_in}
use Rattle.fc_diff.specs.State.{ChangesState}
use Rattle.fc_diff.proofs.States.{restart_found, restart_missed}
use Rattle.fc_diff.proofs.changes.Changes.restart_count.Goals as goal

pub returns-in-Some : goal.returns-in-Some
returns-in-Some c =
    let m = c.args.map.0 in
    c.count.ensures
    ∙ ap count_set (restart_found m c.self.inside.followed c.in-Some.place c.self.inside.table c.same.result.now (sym c.place_of.ensures ∙ c.in-Some.is) c.same.ensures
    ∙ ap (λ (s : ChangesState). restart_in m s.rows) c.self.view_is)

pub returns-in-None : goal.returns-in-None
returns-in-None c =
    let m = c.args.map.0 in
    ap count_set (sym (restart_missed m (take c.self.inside.followed c.self.inside.table) (sym c.place_of.ensures ∙ c.in-None.is)) ∙ ap (λ (s : ChangesState). restart_in m s.rows) c.self.view_is)
