use Rattle.fc_entry.proofs.WrittenLemmas.{Written-then, Written-cut}
use Rattle.fc_entry.proofs.phrase.put_listed.Goals as goal

pub returns-in_err-put_text : goal.returns-in_err-put_text
returns-in_err-put_text g c =
    rw c.from_residual.ensures.0 (Written-cut _ c.args.text.now _ _ c.in_err-put_text.ensures)

pub returns : goal.returns
returns g c = Written-then _ c.args.text.now _ _ _ _ c.in_ok-put_text.ensures c.put_volumes.ensures
