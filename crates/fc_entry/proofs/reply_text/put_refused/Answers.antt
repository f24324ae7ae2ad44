use Rattle.std.proofs.Common.{codes}
use Rattle.fc_entry.proofs.WrittenLemmas.{Written-then, Written-cut}
use Rattle.fc_entry.proofs.reply_text.put_refused.Goals as goal

pub returns-in_err-put_text : goal.returns-in_err-put_text
returns-in_err-put_text g c =
    rw c.from_residual.ensures.0 (Written-cut _ (codes "refused ") _ _ c.in_err-put_text.ensures)

pub returns : goal.returns
returns g c = Written-then _ (codes "refused ") _ _ _ _ c.in_ok-put_text.ensures (rw c.refusal_phrase.ensures at c.put_phrase.ensures)
