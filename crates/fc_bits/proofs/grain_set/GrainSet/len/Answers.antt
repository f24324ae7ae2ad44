use Rattle.std.proofs.Common.{sym}
use Rattle.fc_bits.proofs.Sets.{length_held}
use Rattle.fc_bits.proofs.grain_set.GrainSet.len.Goals as goal

pub returns : goal.returns
returns c = sym (length_held c.self.inside.grains c.self.inside.words.items c.args.self.now c.self.view_is)
