use Rattle.std.proofs.Common.{refl}
use Rattle.fc_format.proofs.Made.{chain_made, fails}
use Rattle.fc_format.proofs.chains.MetaChainField.read.Goals as goal

pub returns-in-Ok : goal.returns-in-Ok
returns-in-Ok c = rw (chain_made.same c.args.cursor.now, c.in-Ok.ensures) refl

pub returns-in-Err : goal.returns-in-Err
returns-in-Err c = fails chain_made c.args.cursor.now c.in-Err.error c.read.new.cursor c.read.new.cursor c.in-Err.ensures
