use Rattle.std.proofs.Common.{◌∙◌, ap, map, set}
use Rattle.fc_apply.specs.Accesses.{volume_of_row}
use Rattle.fc_apply.specs.declared.access.AccessRow.{AccessRow}
use Rattle.fc_apply.proofs.Accessing.{seen_set, seen_set_none, row_with}
use Rattle.fc_apply.proofs.access.Accesses.set.Goals as goal

pub returns-in-Some-clause-volumes : goal.returns-in-Some-clause-volumes
returns-in-Some-clause-volumes c =
    ap (λ (r : AccessRow). map volume_of_row (set c.self.inside.rows.items c.in-Some.place (row_with c.args.access r))) c.index_mut.ensures.value
    ∙ seen_set c.self.inside.rows.items c.args.self.now _ c.self.view_is c.as_slice.result.now c.as_slice.ensures.value c.self.invariant c.args.volume c.args.access c.in-Some.place c.index_mut.result.now c.in-Some.ensures.within c.in-Some.ensures.found

pub returns-in_default-clause-volumes : goal.returns-in_default-clause-volumes
returns-in_default-clause-volumes c = seen_set_none c.self.inside.rows.items c.args.self.now _ c.self.view_is c.as_slice.result.now c.as_slice.ensures.value c.args.volume c.args.access c.in_default.ensures.none
