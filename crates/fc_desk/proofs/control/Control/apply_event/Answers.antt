-- The flags rise still.
use Rattle.std.proofs.Common.{sym, subst}
use Rattle.fc_pick.specs.Flags.{AreByMapping}
use Rattle.fc_desk.proofs.Without.{rising_flags, rising_without}
use Rattle.fc_desk.proofs.control.Control.apply_event.Goals as goal

pub invariant_of-self : goal.invariant_of-self
invariant_of-self c =
    subst AreByMapping (sym c.set_flags.ensures.items) (rising_flags (record { map = c.in-Work.map; copies = c.in-Work.copies; cleans = c.in-Work.cleans }) c.self.inside.flags.items c.self.invariant)

pub invariant_of-self-in-Forget : goal.invariant_of-self-in-Forget
invariant_of-self-in-Forget c = subst AreByMapping (sym c.clear_flags.ensures.items) (rising_without c.in-Forget.map c.self.inside.flags.items c.self.invariant)
