use Rattle.std.proofs.Common.{◌≡◌, ◌≤◌, length, vec_len}
use Rattle.fc_yard.specs.Calls.{IsPassOf}
use Rattle.fc_yard.specs.Rule.{account}
use Rattle.fc_tasks.specs.Acting.{HoldsJust}
use Rattle.fc_tasks.proofs.turns.put_all.Given as goal

abbrev pub invariant-loop-value : goal.invariant-loop-value
invariant-loop-value g l = record {
  yard : IsPassOf l.yard l.pass;
  books : account l.pass.view ≡ account l.fn.pass.view;
  held : HoldsJust l.pass.view l.parts.items;
  few : length l.parts.items ≤ l.yard.parts;
}

abbrev pub decreases-loop-value : goal.decreases-loop-value
decreases-loop-value g l = vec_len l.parts
