-- Entry by entry, and how it ends.
use Rattle.std.proofs.Common.{◌-◌, List, Option, length, drop, take, sym, ap, subst, arith}
use Rattle.std.proofs.lemmas.List.{length-drop, take_rest}
use Rattle.fc_drawing.specs.Drawn.{Drawn}
use Rattle.fc_view.specs.Views.{EndsAs}
use Rattle.fc_view.proofs.Ending.{IsSoFar, from_place, next_some, so_far_first, so_far_more, viewed, viewed_all, want_viewed}
use Rattle.fc_view.proofs.view.draw_entries.Goals as goal

pub loop-place-init : goal.loop-place-init
loop-place-init g c =
    so_far_first c.args.header.now c.args.at c.args.bytes.now c.args.start c.args.behind.now (g.C.Canvas.drawn c.args.canvas.now)
    c.requires.within c.requires.lanes c.requires.line c.requires.known c.requires.none

pub loop-place-preserved : goal.loop-place-preserved
loop-place-preserved g c =
    so_far_more c.args.header.now c.args.at c.args.bytes.now c.loop-place.place c.in-Ok-Drawn.count c.loop-place.behind c.draw_next.new.behind
    (g.C.Canvas.drawn c.args.canvas.now) (g.C.Canvas.drawn c.loop-place.canvas) (g.C.Canvas.drawn c.draw_next.new.canvas) c.loop-place.invariant
    (rw c.in-Ok-Drawn.field-0-is at c.in-Ok-Drawn.ensures.next)

pub loop-place-smaller : goal.loop-place-smaller
loop-place-smaller g c =
    omega (
      arith,
      next_some c.args.header.now c.args.at (take (length c.args.bytes.now - c.loop-place.place) (drop c.loop-place.place c.args.bytes.now)) c.in-Ok-Drawn.count
          c.loop-place.behind c.draw_next.new.behind (g.C.Canvas.drawn c.loop-place.canvas) (g.C.Canvas.drawn c.draw_next.new.canvas)
          (rw c.in-Ok-Drawn.field-0-is at c.in-Ok-Drawn.ensures.next),
      c.loop-place-test.true,
    )

pub seen_at_session-requires : goal.seen_at_session-requires
seen_at_session-requires g c =
    omega (arith, ap length (take_rest c.args.bytes.now c.loop-place.place), length-drop c.loop-place.place c.args.bytes.now, c.loop-place.invariant.within)

pub draw_next-requires-clause-within : goal.draw_next-requires-clause-within
draw_next-requires-clause-within g c =
    omega (arith, ap length (take_rest c.args.bytes.now c.loop-place.place), length-drop c.loop-place.place c.args.bytes.now, c.loop-place.invariant.within)

pub returns-then-bytes-place-eq115 : goal.returns-then-bytes-place-eq115
returns-then-bytes-place-eq115 g c =
    let header = c.args.header.now in
    let bytes = c.args.bytes.now in
    let place = c.loop-place.place in
    let history = c.loop-place.behind.progress.history in
    viewed header c.args.at bytes place c.loop-place.behind c.seen_at_session.result (g.C.Canvas.drawn c.args.canvas.now) (g.C.Canvas.drawn c.loop-place.canvas)
    c.loop-place.invariant
    (from_place bytes place (λ l. EndsAs c.seen_at_session.result header history place l) (c.seen_at_session.ensures header history c.len-told.ensures))

pub returns-in-Ok-Ends : goal.returns-in-Ok-Ends
returns-in-Ok-Ends g c =
    let header = c.args.header.now in
    let bytes = c.args.bytes.now in
    let place = c.loop-place.place in
    let seen = c.in-Ok-Ends.seen in
    let history = c.loop-place.behind.progress.history in
    let next = rw c.in-Ok-Ends.field-0-is at c.in-Ok-Ends.ensures.next in
    viewed header c.args.at bytes place c.loop-place.behind seen (g.C.Canvas.drawn c.args.canvas.now) (g.C.Canvas.drawn c.draw_next.new.canvas)
    (
    subst (λ (n : Option (List Drawn)). IsSoFar header c.args.at bytes place c.loop-place.behind (g.C.Canvas.drawn c.args.canvas.now) n) (sym next.1)
    c.loop-place.invariant
    )
    (from_place bytes place (λ l. EndsAs seen header history place l) next.0)

pub returns-in-Err : goal.returns-in-Err
returns-in-Err g c = want_viewed c.in-Err.stop c.args.at c.args.bytes.now (g.C.Canvas.drawn c.args.canvas.now) (g.C.Canvas.drawn c.draw_next.new.canvas) c.in-Err.ensures.refused

pub returns : goal.returns
returns g c =
    viewed_all c.args.header.now c.args.at c.args.bytes.now c.loop-place.place c.loop-place.behind c.len-all.result (g.C.Canvas.drawn c.args.canvas.now)
    (g.C.Canvas.drawn c.loop-place.canvas) c.loop-place.invariant c.len-all.ensures (omega (arith, c.loop-place-test.false))
