use Rattle.std.proofs.Common.{ℕ, ◌<◌, ◌≡◌, List, length}
use Rattle.fc_loops.specs.Routes.{RouteBy}
use Rattle.fc_loops.specs.Links.{HasLink}
use Rattle.fc_loops.proofs.loops.told_loop.Given as goal

-- no node so far is on a loop
abbrev pub invariant-loop-start : goal.invariant-loop-start
invariant-loop-start l = record {
  size : length l.marks.items ≡ l.nodes;
  none : (v : ℕ) → v < l.start → (xs : List ℕ) → RouteBy (HasLink l.links) v xs v → ⊥;
}
