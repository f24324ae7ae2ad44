use Rattle.std.proofs.Common.{◌≡◌, ◌<◌, length, subst, sym, ap, ◌∙◌}
use Rattle.fc_books.specs.Sound.{AreSound}
use Rattle.fc_check_record.proofs.Deciding.{decided_same, room_same, seen_books}
use Rattle.fc_check_record.specs.Judged.{Judged}
use Rattle.fc_check_sheet.specs.View.{Plain, pools_of, view_of}
use Rattle.fc_desk.specs.Control.{books_of}
use Rattle.fc_check_record.proofs.record.Record.decide.Goals as goal

-- the books that are decided on
seen : (c : goal.After-view-1) → books_of c.self.inside.kept.control (view_of c.view-view.result) ≡ c.args.self.now.whole.books
seen c =
    let i = c.self.inside.kept in
    seen_books i.control i.known i.rows (pools_of i.pools.items) i.rooms i.calls.items c.args.self.now c.view-view.result c.self.view_is c.view-view.ensures

pub decide-requires : goal.decide-requires
decide-requires c =
    let j = c.args.self.now in
    record {
      sound = subst AreSound (sym (seen c)) c.requires.sound;
      lanes = subst (λ (p : Plain). 0 < length p.pools) (sym c.view-view.ensures) c.requires.lanes;
      room = room_same (books_of c.self.inside.kept.control (view_of c.view-view.result)) j.whole.books c.view-view.result.rows j.whole.rows (seen c) (ap (λ (p : Plain). p.rows) c.view-view.ensures) c.requires.room;
      decided = c.requires.decided;
    }

pub returns : goal.returns
returns c =
    let i = c.self.inside.kept in
    let j = c.args.self.now in
    let books = seen_books i.control i.known i.rows (pools_of i.pools.items) i.rooms i.calls.items j c.view-view.result c.self.view_is c.view-view.ensures in
    decided_same i.control.grain j.grain (books_of i.control (view_of c.view-view.result)) j.whole.books c.view-view.result.rows j.whole.rows c.args.command.now c.decide.result
    (sym c.self.invariant.grain ∙ ap (λ (j : Judged). j.grain) c.self.view_is) books (ap (λ (p : Plain). p.rows) c.view-view.ensures) c.decide.ensures
