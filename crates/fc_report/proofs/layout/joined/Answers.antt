use Rattle.fc_report.proofs.Cells.{joined_first}
use Rattle.fc_report.proofs.layout.joined.Goals as goal

pub returns-in-len1-up : goal.returns-in-len1-up
returns-in-len1-up c =
    rw (joined_first c.args.delim c.args.texts.now c.first-item.result c.in-len1-up.len_at_least, ← c.first-item.is, ← c.as_slice.ensures)
    c.joined_behind.ensures
