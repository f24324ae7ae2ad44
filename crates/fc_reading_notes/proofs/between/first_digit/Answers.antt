use Rattle.std.proofs.Common.{sym}
use Rattle.fc_reading_notes.proofs.BetweenLemmas.{begun-below}
use Rattle.fc_reading_notes.proofs.between.first_digit.Goals as goal

pub returns-then-is_begun-clause-within : goal.returns-then-is_begun-clause-within
returns-then-is_begun-clause-within c = begun-below c.args.least c.args.most _ (sym c.if-is_begun.ensures)
