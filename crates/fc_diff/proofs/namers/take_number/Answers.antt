use Rattle.std.proofs.Common.{◌∙◌, ap, rules}
use Rattle.std.proofs.lemmas.Fn.{filter_same}
use Rattle.fc_diff.specs.Index.{is_listed}
use Rattle.fc_diff.proofs.Naming.{listed_filter}
use Rattle.fc_diff.proofs.namers.take_number.Goals as goal

pub returns-clause-kept : goal.returns-clause-kept
returns-clause-kept c m other there =
    ap (is_listed m) (filter_same _ _ _ (λ x b f' k. search rules) _ _ c.retain.ensures.filtered) ∙ listed_filter m c.args.number c.args.list.now.items other there
