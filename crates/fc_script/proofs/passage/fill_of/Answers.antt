-- The next grain is the same before and after a work has paid.
use Rattle.std.proofs.Common.{ap, sym, ◌∙◌}
use Rattle.fc_legal.specs.Seconds.{next_grain}
use Rattle.fc_stands.proofs.Passing.{same_next}
use Rattle.fc_script.proofs.Fills.{none_paid_to_do, worth_paid}
use Rattle.fc_script.proofs.passage.fill_of.Goals as goal

pub returns-then-paid-clause-fill : goal.returns-then-paid-clause-fill
returns-then-paid-clause-fill g c = λ w stands.
    worth_paid c.args.store.now.control.grain w c.args.paid.now c.args.work.now c.in-Some.grain c.if-paid.true (sym (c.in-Some.ensures w stands))

pub returns-then-pay-clause-next : goal.returns-then-pay-clause-next
returns-then-pay-clause-next g c = λ w stands.
    ap (next_grain c.args.store.now.control.grain w) c.if-pay.ensures.paid.1
    ∙ (same_next c.args.store.now.control.grain c.grain.result w c.args.work.now
    ∙ sym (c.in-Some.ensures w stands))

pub returns-in-None-clause-fill : goal.returns-in-None-clause-fill
returns-in-None-clause-fill g c = λ w stands.
    none_paid_to_do c.args.store.now.control.grain w c.args.paid.now c.args.work.now (sym (c.in-None.ensures w stands))
