use Rattle.std.proofs.Common.{arith}
use Rattle.fc_bits.specs.declared.scan.TheConstants.{LANES}
use Rattle.fc_bits.proofs.Vectors.{clear_in_common}
use Rattle.fc_bits.proofs.scan.SharedRow.are_clear.Goals as goal

pub returns : goal.returns
returns c = clear_in_common c.args.self.now.a.now c.args.self.now.b.now c.args.index LANES c.requires (omega arith)
