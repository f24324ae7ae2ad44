use Rattle.std.proofs.Common.{refl}
use Rattle.fc_format.proofs.Made.{pair_made, fails}
use Rattle.fc_format.proofs.records.take_pair.Goals as goal

pub returns-in-Ok : goal.returns-in-Ok
returns-in-Ok c = rw (pair_made.same c.args.cursor.now, c.in-Ok.ensures) refl

pub returns-in-Err : goal.returns-in-Err
returns-in-Err c = fails pair_made c.args.cursor.now c.in-Err.error c.read.new.cursor c.read.new.cursor c.in-Err.ensures
