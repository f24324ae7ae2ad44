use Rattle.std.proofs.Common.{arith}
use Rattle.fc_bits.proofs.Sets.{length_held, clear_held}
use Rattle.fc_bits.proofs.grain_set.GrainSet.clear.Goals as goal

pub index_mut-requires : goal.index_mut-requires
index_mut-requires c = omega (arith, length_held c.self.inside.grains c.self.inside.words.items c.args.self.now c.self.view_is)

pub invariant_of-self : goal.invariant_of-self
invariant_of-self c = (clear_held c.self.inside.grains c.self.inside.words.items c.args.self.now c.self.view_is c.self.invariant c.args.grain c.index_mut.result.now c.requires c.index_mut.ensures.value).0

pub returns : goal.returns
returns c = (clear_held c.self.inside.grains c.self.inside.words.items c.args.self.now c.self.view_is c.self.invariant c.args.grain c.index_mut.result.now c.requires c.index_mut.ensures.value).1
