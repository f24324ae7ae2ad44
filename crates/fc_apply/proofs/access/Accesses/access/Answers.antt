use Rattle.std.proofs.Common.{◌∙◌, ap}
use Rattle.fc_apply.specs.declared.access.AccessRow.{AccessRow}
use Rattle.fc_apply.proofs.Accessing.{seen_access, seen_none}
use Rattle.fc_apply.proofs.access.Accesses.access.Goals as goal

pub returns-in-Some : goal.returns-in-Some
returns-in-Some c =
    ap (λ (r : AccessRow). r.access) c.index.ensures
    ∙ seen_access c.self.inside.rows.items c.args.self.now _ c.self.view_is c.as_slice.result.now c.as_slice.ensures.value c.self.invariant c.args.volume c.in-Some.place c.index.result.now c.in-Some.ensures.within c.in-Some.ensures.found

pub returns-in-None : goal.returns-in-None
returns-in-None c = seen_none c.self.inside.rows.items c.args.self.now _ c.self.view_is c.as_slice.result.now c.as_slice.ensures.value c.args.volume c.in-None.ensures.none
