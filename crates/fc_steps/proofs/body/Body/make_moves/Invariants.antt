use Rattle.std.proofs.Common.{◌≡◌}
use Rattle.fc_steps.proofs.StepsLoop.{Looping}
use Rattle.fc_steps.proofs.body.Body.make_moves.Given as goal

-- the moves before this one were made
abbrev pub invariant-loop-mv : goal.invariant-loop-mv
invariant-loop-mv g l = Looping l.plan l.place l.initial.self.cascade l.initial.self.grains l.self.cascade l.self.grains l.calls l.made.moves l.mv-index × (l.made.room ≡ l.initial.made.room)
