use Rattle.std.proofs.Common.{rules}
use Rattle.std.proofs.lemmas.Fn.{filter_same}
use Rattle.fc_apply.proofs.Accessing.{seen_removed, seen_rising}
use Rattle.fc_apply.proofs.access.Accesses.remove.Goals as goal

pub invariant_of-self : goal.invariant_of-self
invariant_of-self c =
    seen_rising c.self.inside.rows.items c.args.self.now _ c.self.view_is c.retain.new.self.items c.args.volume.0 c.self.invariant (filter_same _ _ _ (λ x b f' k. search rules) _ _ c.retain.ensures.filtered)

pub returns-clause-volumes : goal.returns-clause-volumes
returns-clause-volumes c =
    seen_removed c.self.inside.rows.items c.args.self.now _ c.self.view_is c.retain.new.self.items c.args.volume.0 (filter_same _ _ _ (λ x b f' k. search rules) _ _ c.retain.ensures.filtered)
