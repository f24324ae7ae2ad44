use Rattle.std.proofs.Common.{◌≡◌, ℕ, ◌<◌, ◌≤◌, OnOk, Result, List, arith}
use Rattle.fc_base.specs.declared.outcome.NoMemory.{NoMemory}
use Rattle.fc_gen.specs.Session.{Drawn, draw, draw_write, draw_read, draw_start, draw_stop, draw_advance, Adds}
use Rattle.fc_gen.proofs.DrawLemmas.{draw-at, draw_by-write, draw_by-read, draw_by-start, draw_by-stop, draw_by-advance}
use Rattle.fc_gen.proofs.Text.put_drawn.Goals as goal

pub returns-then-kind-lt4 : goal.returns-then-kind-lt4
returns-then-kind-lt4 c =
    rw (draw-at c.args.draws.now.state c.below-kind.new.self.state c.below-kind.result (draw_write c.below-kind.new.self.state) c.below-kind.ensures.state c.below-kind.ensures.drawn (draw_by-write c.below-kind.result c.below-kind.new.self.state c.if-kind-lt4.true)) c.put_write.ensures

pub returns-then-kind-lt7 : goal.returns-then-kind-lt7
returns-then-kind-lt7 c =
    rw (draw-at c.args.draws.now.state c.below-kind.new.self.state c.below-kind.result (draw_read c.below-kind.new.self.state) c.below-kind.ensures.state c.below-kind.ensures.drawn (draw_by-read c.below-kind.result c.below-kind.new.self.state c.if-kind-lt4.false c.if-kind-lt7.true)) c.put_read.ensures

pub returns-then-kind-eq7 : goal.returns-then-kind-eq7
returns-then-kind-eq7 c =
    rw (draw-at c.args.draws.now.state c.below-kind.new.self.state c.below-kind.result (draw_start c.below-kind.new.self.state) c.below-kind.ensures.state c.below-kind.ensures.drawn (draw_by-start c.below-kind.result c.below-kind.new.self.state c.if-kind-eq7.true)) c.put_start.ensures

pub returns-then-kind-eq8 : goal.returns-then-kind-eq8
returns-then-kind-eq8 c =
    rw (draw-at c.args.draws.now.state c.below-kind.new.self.state c.below-kind.result (draw_stop c.below-kind.new.self.state) c.below-kind.ensures.state c.below-kind.ensures.drawn (draw_by-stop c.below-kind.result c.below-kind.new.self.state c.if-kind-eq8.true)) c.put_stop.ensures

pub returns-else-kind-eq8 : goal.returns-else-kind-eq8
returns-else-kind-eq8 c =
    let nine : c.below-kind.result ≡ 9 = omega arith in
    rw (draw-at c.args.draws.now.state c.below-kind.new.self.state c.below-kind.result (draw_advance c.below-kind.new.self.state) c.below-kind.ensures.state c.below-kind.ensures.drawn (draw_by-advance c.below-kind.result c.below-kind.new.self.state nine)) c.put_advance.ensures
