-- No more is drawn by the sums.
use Rattle.fc_view.proofs.Ending.{put_viewed}
use Rattle.fc_view.proofs.view.draw_trace.Goals as goal

pub returns-in-Ok-draw_entries : goal.returns-in-Ok-draw_entries
returns-in-Ok-draw_entries g c =
    put_viewed c.sum_up.result c.seen_where.result c.in-Ok-draw_entries.seen c.args.at c.args.bytes.now (g.C.Canvas.drawn c.args.canvas.now)
    (g.C.Canvas.drawn c.draw_entries.new.canvas) (g.C.Canvas.drawn c.sum_up.new.canvas)
    c.seen_where.ensures c.sum_up.ensures.same c.sum_up.ensures.refused c.in-Ok-draw_entries.ensures
