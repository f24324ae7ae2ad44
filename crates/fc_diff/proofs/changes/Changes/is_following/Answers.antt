use Rattle.std.proofs.Common.{◌∙◌, ap, take, is_some}
use Rattle.std.specs.List.{list_any}
use Rattle.fc_changed.specs.Row.{is_of}
use Rattle.fc_diff.specs.State.{ChangesState}
use Rattle.fc_diff.proofs.States.{place_is}
use Rattle.fc_diff.proofs.changes.Changes.is_following.Goals as goal

pub returns : goal.returns
returns c =
    let m = c.args.map.0 in
    c.is_some.ensures ∙ (ap is_some c.place_of.ensures ∙ (place_is m (take c.self.inside.followed c.self.inside.table) ∙ ap (λ (s : ChangesState). list_any (is_of m) s.rows) c.self.view_is))
