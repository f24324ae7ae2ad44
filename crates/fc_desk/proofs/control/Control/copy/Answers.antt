use Rattle.std.proofs.Common.{subst, sym, ◌∙◌}
use Rattle.fc_pick.specs.Flags.{AreByMapping}
use Rattle.fc_desk.proofs.control.Control.copy.Goals as goal

-- the flags are the same, and so they rise
pub invariant_of-result : goal.invariant_of-result
invariant_of-result c = subst AreByMapping (sym (c.in_ok-flags.ensures ∙ c.as_slice.ensures.value)) c.self.invariant
