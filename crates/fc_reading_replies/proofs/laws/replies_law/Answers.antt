-- The law is proved in `LawLemmas`.
use Rattle.fc_reading_replies.proofs.LawLemmas.{replies_law_holds}
use Rattle.fc_reading_replies.proofs.laws.replies_law.Goals as goal

pub returns : goal.returns
returns c = replies_law_holds
