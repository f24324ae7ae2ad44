use Rattle.fc_reading_entries.proofs.LawLemmas.{read_entries_law_holds}
use Rattle.fc_reading_entries.proofs.laws.read_entries_law.Goals as goal

pub returns : goal.returns
returns c = read_entries_law_holds
