-- Rate 0 is the table's first row, and no row is past the last rate; the other rates are the shift.
use Rattle.fc_rates.proofs.RateTable.{none_at_ends, shifted_is_table}
use Rattle.fc_rates.proofs.kib_per_second.Goals as goal

pub returns-then-rate-eq0 : goal.returns-then-rate-eq0
returns-then-rate-eq0 c = none_at_ends c.args.rate c.then-rate-eq0.either

pub returns : goal.returns
returns c = shifted_is_table c.args.rate c.if-rate-eq0.false c.if-rate-gt-LAST_RATE.false
