use Rattle.std.proofs.Common.{refl}
use Rattle.fc_format.proofs.Made.{group_made, fails}
use Rattle.fc_format.proofs.tables.GroupField.read.Goals as goal

pub returns-in-Ok : goal.returns-in-Ok
returns-in-Ok c = rw (group_made.same c.args.cursor.now, c.in-Ok.ensures) refl

pub returns-in-Err : goal.returns-in-Err
returns-in-Err c = fails group_made c.args.cursor.now c.in-Err.error c.read.new.cursor c.read.new.cursor c.in-Err.ensures
