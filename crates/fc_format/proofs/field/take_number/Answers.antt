use Rattle.std.proofs.Common.{refl}
use Rattle.fc_format.proofs.Steps.{number_short, number_there, bad_there}
use Rattle.fc_format.proofs.field.take_number.Goals as goal

pub returns-then-bytes-count-clause-number : goal.returns-then-bytes-count-clause-number
returns-then-bytes-count-clause-number c =
    bad_there _ c.args.cursor.now c.args.cursor.now _ c.damaged.ensures (number_short c.args.count c.args.cursor.now c.bytes-bytes.result.now c.bytes-bytes.ensures c.if-bytes-count.true)

pub returns-clause-number : goal.returns-clause-number
returns-clause-number c =
    number_there c.args.count c.args.cursor.now c.bytes-bytes.result.now c.bytes-bytes.ensures c.skip.new.self _ c.if-bytes-count.false refl c.skip.ensures
