use Rattle.std.proofs.Common.{◌≡◌, ◌+◌, subst, sym, ap, ◌∙◌, arith}
use Rattle.fc_check_lane.specs.Known.{Known}
use Rattle.fc_check_record.proofs.Agreeing.{one_counted}
use Rattle.fc_check_record.proofs.Telling.{more_told}
use Rattle.fc_check_record.specs.Judged.{AreOne, Judged}
use Rattle.fc_check_sheet.specs.View.{pools_of}
use Rattle.fc_check_record.proofs.record.Record.one_more.Goals as goal

pub overflow_add-known : goal.overflow_add-known
overflow_add-known c =
    let same : c.known.inside.entries ≡ c.args.self.now.whole.entries = ap (λ (k : Known). k.entries) c.known.view_is ∙ ap (λ (j : Judged). j.whole.entries) c.self.view_is in
    omega arith

pub invariant_of-self : goal.invariant_of-self
invariant_of-self c =
    one_counted c.self.inside.kept.control _ c.self.inside.kept.calls.items (subst (λ (k : Known). AreOne c.self.inside.kept.control k c.self.inside.kept.calls.items) (sym c.known.view_is) c.self.invariant)

pub returns : goal.returns
returns c =
    let i = c.self.inside.kept in
    more_told i.control i.known _ i.rows (pools_of i.pools.items) i.rooms i.calls.items c.args.self.now c.self.view_is (ap (λ (k : Known). record k { entries = k.entries + 1 }) c.known.view_is)
