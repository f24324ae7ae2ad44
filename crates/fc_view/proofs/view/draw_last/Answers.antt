-- It is followed, and then drawn.
use Rattle.std.proofs.Common.{◌≢◌, ◌<◌, [], length, sym, subst}
use Rattle.fc_check.specs.declared.judge.Progress.{Progress}
use Rattle.fc_view.proofs.Showing.{shown_after}
use Rattle.fc_view.proofs.view.draw_last.Goals as goal

pub draw-requires-clause-some : goal.draw-requires-clause-some
draw-requires-clause-some g c = subst (λ (p : Progress). 0 < length p.history.entries) (sym c.in-Ok.ensures.progress) c.requires.some

pub draw-requires-clause-told : goal.draw-requires-clause-told
draw-requires-clause-told g c = subst (λ (p : Progress). p.candidates.ways ≢ []) (sym c.in-Ok.ensures.progress) c.requires.told

pub returns-in-Ok-clause-shown : goal.returns-in-Ok-clause-shown
returns-in-Ok-clause-shown g c =
    shown_after c.draw.result c.args.header.now.grain c.args.ways c.args.at c.args.behind.now c.go_on.new.self c.in-Ok.step (g.C.Canvas.drawn c.args.canvas.now)
    (g.C.Canvas.drawn c.draw.new.canvas) c.in-Ok.ensures.progress c.in-Ok.ensures.followed c.draw.ensures.drawn
