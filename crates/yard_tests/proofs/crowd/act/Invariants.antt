use Rattle.std.proofs.Common.{◌≡◌}
use Rattle.fc_yard.specs.Views.{HoldsNone}
use Rattle.fc_yard.specs.Calls.{IsPassOf}
use Rattle.yard_tests.proofs.crowd.act.Given as goal

abbrev pub invariant-loop-round : goal.invariant-loop-round
invariant-loop-round g l = record {
  yard : IsPassOf l.yard l.pass;
  free : HoldsNone l.pass.view;
  shares : (l.pass.view.shares ≡ l.fn.pass.view.shares) × (l.pass.view.passes ≡ l.fn.pass.view.passes);
}
