use Rattle.std.proofs.Common.{◌-◌, length}
use Rattle.fc_view.proofs.Ending.{IsSoFar}
use Rattle.fc_view.proofs.view.draw_entries.Given as goal

-- the bytes before the place are a trace, and its entries were drawn
abbrev pub invariant-loop-place : goal.invariant-loop-place
invariant-loop-place g l = IsSoFar l.header l.at l.bytes l.place l.behind (g.C.Canvas.drawn l.fn.canvas) (g.C.Canvas.drawn l.canvas)

abbrev pub decreases-loop-place : goal.decreases-loop-place
decreases-loop-place g l = length l.bytes - l.place
