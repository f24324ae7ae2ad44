use Rattle.fc_apply.proofs.Accessing.{seen_there, seen_absent}
use Rattle.fc_apply.proofs.access.Accesses.is_there.Goals as goal

pub returns-in-Some : goal.returns-in-Some
returns-in-Some c = seen_there c.self.inside.rows.items c.args.self.now _ c.self.view_is c.as_slice.result.now c.as_slice.ensures.value c.self.invariant c.args.volume.0 c.in-Some.field-0 c.in-Some.ensures.within c.in-Some.ensures.found

pub returns-in-None : goal.returns-in-None
returns-in-None c = seen_absent c.self.inside.rows.items c.args.self.now _ c.self.view_is c.as_slice.result.now c.as_slice.ensures.value c.args.volume.0 c.in-None.ensures.none
