use Rattle.fc_bits.specs.declared.scan.TheConstants.{LANES}
use Rattle.fc_bits.proofs.Vectors.{clear_in_not}
use Rattle.fc_bits.proofs.scan.ClearRow.are_clear.Goals as goal

pub returns : goal.returns
returns c = clear_in_not c.args.self.now.words.now c.args.index LANES c.requires
