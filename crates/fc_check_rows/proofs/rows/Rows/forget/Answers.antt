use Rattle.std.proofs.Common.{◌∙◌, ap, not, rules}
use Rattle.std.specs.List.{filter}
use Rattle.std.proofs.lemmas.Fn.{filter_same}
use Rattle.fc_changed.specs.Row.{Row, is_of}
use Rattle.fc_check_rows.proofs.rows.Rows.forget.Goals as goal

pub returns : goal.returns
returns c = filter_same _ _ _ (λ x b f' k. search rules) _ _ c.retain.ensures.filtered ∙ ap (filter (λ (row : Row). not (is_of c.args.map.0 row))) c.self.view_is
