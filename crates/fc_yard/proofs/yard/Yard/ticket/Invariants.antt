use Rattle.std.proofs.Common.{◌≡◌, ◌-◌, ◌≤◌}
use Rattle.fc_yard.specs.Views.{looked}
use Rattle.fc_yard.specs.Whole.{Knows}
use Rattle.fc_yard.specs.Calls.{AtRest, became}
use Rattle.fc_yard.proofs.Sitting.{seen}
use Rattle.fc_yard.proofs.yard.Yard.ticket.Given as goal

abbrev pub invariant-loop-given : goal.invariant-loop-given
invariant-loop-given g l = record {
  knows : Knows g.P.Part.fits g.P.Part.sound g.P.Part.count g.P.Part.steps l.pass-inside.seat.me.0;
  rests : AtRest l.pass-inside.seat;
  sees : seen l.pass-inside.seat.table_id l.pass-inside.seat.me ≡ became l.fn.pass (looked l.fn.pass.view l.given);
  low : l.fn.pass.view.low ≤ l.given;
  most : l.given ≤ l.fn.pass.view.limit;
}

abbrev pub decreases-loop-given : goal.decreases-loop-given
decreases-loop-given g l = l.self-inside.limit - l.given
