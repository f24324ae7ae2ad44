use Rattle.std.proofs.Common.{refl}
use Rattle.fc_format.proofs.Made.{changes_made, fails}
use Rattle.fc_format.proofs.chains.MetaChangesField.read.Goals as goal

pub returns-in-Ok : goal.returns-in-Ok
returns-in-Ok c = rw (changes_made.same c.args.cursor.now, c.in-Ok.ensures) refl

pub returns-in-Err : goal.returns-in-Err
returns-in-Err c = fails changes_made c.args.cursor.now c.in-Err.error c.read.new.cursor c.read.new.cursor c.in-Err.ensures
