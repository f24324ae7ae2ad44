use Rattle.std.proofs.Common.{◌↔◌, IsTrue, IfOk, subst, sym}
use Rattle.fc_books.specs.Sound.{AreSound}
use Rattle.fc_check_lane.specs.Next.{IsNext}
use Rattle.fc_check_record.proofs.Agreeing.{next_is}
use Rattle.fc_check_record.proofs.Deciding.{few_grains}
use Rattle.fc_check_record.specs.Judged.{Judged}
use Rattle.fc_check_sheet.specs.View.{pools_of}
use Rattle.fc_check_record.proofs.record.Record.is_next.Goals as goal

pub is_next-requires : goal.is_next-requires
is_next-requires c =
    let i = c.self.inside.kept in
    few_grains i.control i.known i.rows (pools_of i.pools.items) i.rooms i.calls.items c.args.self.now c.self.view_is c.requires.small

pub returns : goal.returns
returns c =
    let i = c.self.inside.kept in
    let sound = subst (λ (j : Judged). AreSound j.whole.books) (sym c.self.view_is) c.requires.sound in
    subst (λ (j : Judged). IfOk c.is_next.result (λ yes. IsTrue yes ↔ IsNext j.grain j.whole c.args.entry.now)) c.self.view_is
    (next_is i.control i.known i.rows (pools_of i.pools.items) i.rooms i.calls.items c.args.entry.now c.is_next.result c.self.invariant sound c.is_next.ensures)
