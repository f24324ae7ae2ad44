-- The last entry is drawn, or isn't to be.
use Rattle.std.proofs.Common.{◌-◌, false, refl, sym, ◌∙◌, arith}
use Rattle.fc_view.proofs.Showing.{as_wanted, wanted_drawn}
use Rattle.fc_view.proofs.behind.Behind.draw.Goals as goal

pub returns-then-is_wanted-clause-drawn : goal.returns-then-is_wanted-clause-drawn
returns-then-is_wanted-clause-drawn g c =
    wanted_drawn c.draw_wanted.result c.args.at c.args.self.now.progress.history.entries (c.len-number.result - 1) c.args.size c.args.self.now c.args.step.now
    (g.C.Canvas.drawn c.args.canvas.now) (g.C.Canvas.drawn c.draw_wanted.new.canvas) (omega (arith, c.len-number.ensures, c.requires.some))
    (sym c.if-is_wanted.true ∙ c.is_wanted.ensures) c.draw_wanted.ensures.drawn

pub returns-clause-drawn : goal.returns-clause-drawn
returns-clause-drawn g c = λ before entry split.
    as_wanted c.args.at c.args.self.now.progress.history.entries before entry (c.len-number.result - 1) false c.args.size c.args.self.now c.args.step.now
    (g.C.Canvas.drawn c.args.canvas.now) (g.C.Canvas.drawn c.args.canvas.now) (omega (arith, c.len-number.ensures, c.requires.some))
    (sym c.if-is_wanted.false ∙ c.is_wanted.ensures) split refl
