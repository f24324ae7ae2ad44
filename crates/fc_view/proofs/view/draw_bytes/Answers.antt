use Rattle.fc_view.proofs.Ending.{viewed_none}
use Rattle.fc_view.proofs.view.draw_bytes.Goals as goal

pub returns-in-Err : goal.returns-in-Err
returns-in-Err g c = viewed_none c.args.at c.args.bytes.now c.in-Err.place (g.C.Canvas.drawn c.args.canvas.now) c.in-Err.ensures.malformed
