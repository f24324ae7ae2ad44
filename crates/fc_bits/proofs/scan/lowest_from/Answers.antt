use Rattle.std.proofs.Common.{arith}
use Rattle.fc_bits.specs.Words.{is_set}
use Rattle.fc_bits.proofs.Least.{least_from_is}
use Rattle.fc_bits.proofs.Places.{least_rest_none, least_rest_some}
use Rattle.fc_bits.proofs.scan.lowest_from.Goals as goal

pub returns-then-rest-eq0-clause-value : goal.returns-then-rest-eq0-clause-value
returns-then-rest-eq0-clause-value c = least_from_is (is_set c.args.word) c.args.place 64 _ (least_rest_none c.args.word c.args.place c.requires c.if-rest-eq0.true)

pub returns-else-rest-eq0-clause-value : goal.returns-else-rest-eq0-clause-value
returns-else-rest-eq0-clause-value c = least_from_is (is_set c.args.word) c.args.place 64 _ (least_rest_some c.args.word c.args.place c.requires c.ranges.word.fits (omega arith))
