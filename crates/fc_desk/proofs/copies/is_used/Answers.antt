-- It is used where the chains say so.
use Rattle.fc_books.proofs.Using.{is_used-whole}
use Rattle.fc_desk.proofs.copies.is_used.Goals as goal

pub returns : goal.returns
returns g c = is_used-whole (g.S.Sheet.meaning c.args.sheet.now).sheet.slots c.args.volume c.used.result c.used.ensures
