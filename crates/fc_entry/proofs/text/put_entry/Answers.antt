use Rattle.fc_entry.specs.Text.{entry_line}
use Rattle.fc_entry.proofs.WrittenLemmas.{Written-then, Written-cut}
use Rattle.fc_entry.proofs.text.put_entry.Goals as goal

pub returns-in_err-put_line : goal.returns-in_err-put_line
returns-in_err-put_line g c =
    rw (c.entry-entry.ensures, c.from_residual.ensures.0)
    (Written-cut _ (entry_line c.args.history.now.actors c.entry-entry.result.now) _ _ (rw c.entry-entry.ensures at c.in_err-put_line.ensures))

pub returns : goal.returns
returns g c =
    rw c.entry-entry.ensures
    (
    Written-then _ (entry_line c.args.history.now.actors c.entry-entry.result.now) _ _ _ _ (rw c.entry-entry.ensures at c.in_ok-put_line.ensures)
    c.put_reply_rows.ensures
    )
