use Rattle.std.proofs.Common.{sym, ◌∙◌, ap, false, arith}
use Rattle.fc_pick.specs.Flags.{rows_state}
use Rattle.fc_pick.proofs.First.{next_some, next_none, flags_rise, copies_flagged}
use Rattle.fc_pick.proofs.work.Work.next_copy.Goals as goal

pub returns-in-Some-clause-next : goal.returns-in-Some-clause-next
returns-in-Some-clause-next g c =
    next_some (λ row. row.copies) copies_flagged (g.G.Grid.least_lacking c.args.grid.now) c.as_slice-copier-items.result.now c.args.self.now (ap rows_state c.as_slice-copier-items.ensures.value ∙ c.self.view_is)
    c.loop-copier.copier-index (record { map = record { 0 = 0 }; copies = false; cleans = false }) c.in-Some.grain
    c.loop-copier.invariant c.loop-copier-test.true c.if-copier.true (sym c.lacking.ensures ∙ c.in-Some.is)

pub returns-in-Some-clause-by_id : goal.returns-in-Some-clause-by_id
returns-in-Some-clause-by_id g c = flags_rise c.self.inside.rows.items c.args.self.now c.self.view_is c.self.invariant

pub returns-clause-next : goal.returns-clause-next
returns-clause-next g c =
    next_none (λ row. row.copies) copies_flagged (g.G.Grid.least_lacking c.args.grid.now) c.as_slice-copier-items.result.now c.args.self.now (ap rows_state c.as_slice-copier-items.ensures.value ∙ c.self.view_is)
    (λ k e within. c.loop-copier.invariant k e (omega (arith, c.loop-copier-test.false)))

pub returns-clause-by_id : goal.returns-clause-by_id
returns-clause-by_id g c = flags_rise c.self.inside.rows.items c.args.self.now c.self.view_is c.self.invariant
