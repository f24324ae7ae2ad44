use Rattle.std.proofs.Common.{refl}
use Rattle.fc_format.proofs.Made.{slot_made, fails}
use Rattle.fc_format.proofs.chains.MetaSlotField.read.Goals as goal

pub returns-in-Ok : goal.returns-in-Ok
returns-in-Ok c = rw (slot_made.same c.args.cursor.now, c.in-Ok.ensures) refl

pub returns-in-Err : goal.returns-in-Err
returns-in-Err c = fails slot_made c.args.cursor.now c.in-Err.error c.read.new.cursor c.read.new.cursor c.in-Err.ensures
