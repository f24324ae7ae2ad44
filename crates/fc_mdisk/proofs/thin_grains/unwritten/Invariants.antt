use Rattle.std.proofs.Common.{◌≡◌, ◌≤◌, replicate, vec_capacity}
use Rattle.fc_mdisk.specs.declared.thin_grains.ThinGrain.TheVariants.{Unwritten}
use Rattle.fc_mdisk.proofs.thin_grains.unwritten.Given as goal

abbrev pub invariant-loop-grain : goal.invariant-loop-grain
invariant-loop-grain l = record {
  items : l.grains.items ≡ replicate l._grain Unwritten;
  room : l.fn.count ≤ vec_capacity l.grains;
}
