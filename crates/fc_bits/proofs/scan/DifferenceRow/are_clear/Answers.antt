use Rattle.std.proofs.Common.{arith}
use Rattle.fc_bits.specs.declared.scan.TheConstants.{LANES}
use Rattle.fc_bits.proofs.Vectors.{clear_in_apart}
use Rattle.fc_bits.proofs.scan.DifferenceRow.are_clear.Goals as goal

pub returns : goal.returns
returns c = clear_in_apart c.args.self.now.a.now c.args.self.now.b.now c.args.index LANES c.requires (omega arith)
