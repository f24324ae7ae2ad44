use Rattle.std.proofs.Common.{◌≡◌, ◌∷◌, [], ◌++◌, ap, sym, subst, rules}
use Rattle.fc_base.specs.declared.state.Access.TheVariants.{Online}
use Rattle.fc_apply.specs.Accesses.{AccessState, AreRising}
use Rattle.fc_apply.proofs.Accessing.{added_rises}
use Rattle.fc_apply.proofs.access.Accesses.add.Goals as goal

pub invariant_of-self : goal.invariant_of-self
invariant_of-self c =
    let is : c.push.new.self.items ≡ c.self.inside.rows.items ++ record { volume = c.args.volume; kind = c.args.kind; access = Online } ∷ [] = search rules in
    subst AreRising (sym is)
    (added_rises c.self.inside.rows.items (record { volume = c.args.volume; kind = c.args.kind; access = Online }) c.args.self.now.volumes (ap (λ (s : AccessState). s.volumes) c.self.view_is) c.self.invariant c.requires.newest)
