use Rattle.std.proofs.Common.{◌≡◌, ◌≤◌, length, vec_len, vec_capacity}
use Rattle.fc_yard.specs.Calls.{IsPassOf}
use Rattle.fc_yard.specs.Rule.{account}
use Rattle.fc_tasks.specs.Acting.{HoldsJust}
use Rattle.fc_tasks.proofs.turns.take_all.Given as goal

abbrev pub invariant-loop-part : goal.invariant-loop-part
invariant-loop-part g l = record {
  yard : IsPassOf l.yard l.pass;
  books : account l.pass.view ≡ account l.fn.pass.view;
  held : HoldsJust l.pass.view l.parts.items;
  count : length l.parts.items ≡ l.part;
  room : l.yard.parts ≤ vec_capacity l.parts;
}
