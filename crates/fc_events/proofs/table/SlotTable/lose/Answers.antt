use Rattle.fc_events.proofs.Tables.{roomy_lost}
use Rattle.fc_events.proofs.table.SlotTable.lose.Goals as goal

pub invariant_of-self : goal.invariant_of-self
invariant_of-self c = roomy_lost _ _ _ _ _ _ c.deref_mut.result.now _ _ c.self.invariant c.deref_mut.ensures.value c.deref_mut.ensures.len c.lose_grain.ensures
