-- One entry more, or what ends the view there.
use Rattle.std.proofs.Common.{inl, refl, arith}
use Rattle.fc_check.proofs.WayLemmas.{read_counted}
use Rattle.fc_view.specs.declared.behind.Behind.{Behind}
use Rattle.fc_view.proofs.Ending.{named_of}
use Rattle.fc_view.proofs.Following.{numbered, right_of, wrong_of}
use Rattle.fc_view.proofs.Showing.{next_shown}
use Rattle.fc_view.proofs.view.draw_next.Goals as goal

pub draw_last-requires-clause-some : goal.draw_last-requires-clause-some
draw_last-requires-clause-some g c =
    omega (arith, read_counted c.args.header.now.grain c.args.behind.now.progress.history c.read_next.new.progress.history c.args.bytes.now c.in-Ok.count c.in-Ok.ensures.read)

pub draw_last-requires-clause-numbered : goal.draw_last-requires-clause-numbered
draw_last-requires-clause-numbered g c =
    numbered c.args.header.now.grain c.args.behind.now.progress.history c.read_next.new.progress.history c.args.bytes.now c.in-Ok.count c.in-Ok.ensures.read c.requires.room

pub draw_last-requires-clause-told : goal.draw_last-requires-clause-told
draw_last-requires-clause-told g c = (right_of c.args.header.now c.read_next.new.progress c.in-Ok.ensures.known c.in-None.is).some

pub returns-in-Some-clause-next : goal.returns-in-Some-clause-next
returns-in-Some-clause-next g c = (
  record {
    number_is = named_of c.read_next.new.progress.wrong c.in-Some.number _ c.in-Some.is (c.in-Ok.ensures.named c.requires.known.unbroken);
    count = c.in-Ok.count;
    new = c.read_next.new.progress.history;
    within = c.in-Ok.ensures.within;
    read = c.in-Ok.ensures.read;
    wrong = wrong_of c.args.header.now c.read_next.new.progress c.in-Some.number c.in-Ok.ensures.known c.in-Some.is;
  },
  refl,
)

pub returns-in-Ok-draw_last-clause-next : goal.returns-in-Ok-draw_last-clause-next
returns-in-Ok-draw_last-clause-next g c =
    let old : Behind = c.args.behind.now in
    next_shown c.args.header.now c.args.at old (record old { progress = c.read_next.new.progress }) c.draw_last.new.behind c.args.bytes.now c.in-Ok.count c.len-ways.result
    (g.C.Canvas.drawn c.args.canvas.now) (g.C.Canvas.drawn c.draw_last.new.canvas) c.requires.known c.in-Ok.ensures.within c.in-Ok.ensures.read c.in-Ok.ensures.known c.in-None.is
    c.len-ways.ensures refl refl c.in-Ok-draw_last.ensures.progress c.in-Ok-draw_last.ensures.shown

pub returns-in-Err-Malformed-clause-next : goal.returns-in-Err-Malformed-clause-next
returns-in-Err-Malformed-clause-next g c =
    let stops = rw c.in-Err-Malformed.field-0-is at c.in-Err-Malformed.ensures.malformed in
    rw c.in-Err-Malformed.field-0-is (record { count = c.in-Err-Malformed.stopped; stopped_is = refl; stops = inl stops }, refl)
