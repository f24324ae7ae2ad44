-- No more is drawn by the end.
use Rattle.fc_view.proofs.Ending.{put_viewed}
use Rattle.fc_view.proofs.view.view_bytes.Goals as goal

pub returns-in-Ok : goal.returns-in-Ok
returns-in-Ok g c =
    put_viewed c.end_view.result c.seen_where.result c.in-Ok.seen c.args.at c.args.bytes.now (g.C.Canvas.drawn c.args.canvas.now)
    (g.C.Canvas.drawn c.draw_bytes.new.canvas) (g.C.Canvas.drawn c.end_view.new.canvas)
    c.seen_where.ensures c.end_view.ensures.same c.end_view.ensures.refused c.in-Ok.ensures
