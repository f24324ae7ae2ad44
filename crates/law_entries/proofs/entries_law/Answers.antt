-- The lemma is that of `fc_parts`.
use Rattle.fc_parts.proofs.Marked.{right_marked}
use Rattle.law_entries.proofs.entries_law.Goals as goal

pub returns : goal.returns
returns c = record { marked = λ l told entry number actor right. right_marked number actor entry l told right }
