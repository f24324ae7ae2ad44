-- The name is none of those so far.
use Rattle.std.proofs.Common.{◌≡◌, ◌+◌, ◌-◌, ◌≤◌, drop}
use Rattle.std.specs.List.{position_or_len}
use Rattle.std.specs.Str.{bytes_eq}
use Rattle.fc_prepare.proofs.scripts.number_of.Given as goal

abbrev pub invariant-loop-number : goal.invariant-loop-number
invariant-loop-number l = record {
  place : l.number + position_or_len (λ known. bytes_eq known l.name) (drop l.number l.history.actors) ≡ position_or_len (λ known. bytes_eq known l.name) l.history.actors;
  within : l.number ≤ l.count;
}

abbrev pub decreases-loop-number : goal.decreases-loop-number
decreases-loop-number l = l.count - l.number
