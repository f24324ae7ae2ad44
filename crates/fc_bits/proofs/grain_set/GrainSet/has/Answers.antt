use Rattle.std.proofs.Common.{arith}
use Rattle.fc_bits.proofs.Sets.{length_held, has_held}
use Rattle.fc_bits.proofs.grain_set.GrainSet.has.Goals as goal

pub index-requires : goal.index-requires
index-requires c = omega (arith, length_held c.self.inside.grains c.self.inside.words.items c.args.self.now c.self.view_is)

pub returns : goal.returns
returns c = has_held c.self.inside.grains c.self.inside.words.items c.args.self.now c.self.view_is c.self.invariant c.args.grain c.index.result.now c.requires c.index.ensures
