use Rattle.fc_slots.proofs.Finds.{next_found}
use Rattle.fc_slots.proofs.walk.next_waiting.Goals as goal

pub returns-clause-value : goal.returns-clause-value
returns-clause-value c = next_found _ _ _ c.first_waiting.result c.first_waiting.ensures.value
