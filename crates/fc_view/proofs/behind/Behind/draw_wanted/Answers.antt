-- The first way is there, and the canvas draws what it is given.
use Rattle.fc_drawing.specs.Drawn.{drawn_of}
use Rattle.fc_view.proofs.Following.{first_none}
use Rattle.fc_view.proofs.Showing.{laid_drawn}
use Rattle.fc_view.proofs.behind.Behind.draw_wanted.Goals as goal

pub returns-in-Some-clause-drawn : goal.returns-in-Some-clause-drawn
returns-in-Some-clause-drawn g c =
    laid_drawn c.draw.result c.of_canvas.result c.args.size c.args.self.now c.args.step.now c.entry-entry.result.now (drawn_of c.drawing.result)
    c.args.self.now.progress.history.entries c.args.number (g.C.Canvas.drawn c.args.canvas.now) (g.C.Canvas.drawn c.draw.new.self)
    c.of_canvas.ensures.ok c.draw.ensures c.entry-entry.ensures c.drawing.ensures

pub returns-in-None-clause-drawn : goal.returns-in-None-clause-drawn
returns-in-None-clause-drawn g c = λ entry there. absurd (c.requires.told (first_none c.args.self.now.progress.candidates.ways c.in-None.ensures))
