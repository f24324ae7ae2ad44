use Rattle.std.proofs.Common.{◌∙◌, sym, ap, arith}
use Rattle.std.proofs.lemmas.Result.{on_ok_weaker}
use Rattle.fc_base.specs.Moves.{is_in}
use Rattle.fc_base.specs.Sheet.{column}
use Rattle.model_slots.proofs.Asking.{list_zero, list_again, list_new}
use Rattle.model_slots.proofs.moves.+list_slot.Goals as goal

pub returns-then-depth-eq0 : goal.returns-then-depth-eq0
returns-then-depth-eq0 t c = list_zero _ c.args.depth _ _ (omega arith)

pub returns-then-is_listed : goal.returns-then-is_listed
returns-then-is_listed t c =
    list_again _ c.args.depth c.args.place _ (sym (ap (is_in c.args.place) c.as_slice.ensures.value) ∙ (sym c.is_listed.ensures ∙ c.if-is_listed.true))

pub returns : goal.returns
returns t c =
    on_ok_weaker c.put_first.result (λ e. list_new (column c.args.slots.now c.args.grain) c.args.depth c.args.place c.args.listed.now.items c.as_slice-next-items.result.now _ _ c.loop-next.next-index
    (omega arith) (sym c.if-is_listed.false ∙ (c.is_listed.ensures ∙ ap (is_in c.args.place) c.as_slice.ensures.value)) (c.as_slice-next-items.ensures.value ∙ c.in_ok-asked.ensures)
    c.loop-next.invariant c.loop-next-test.false e) c.put_first.ensures
