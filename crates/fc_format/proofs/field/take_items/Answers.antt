use Rattle.std.proofs.Common.{◌≡◌, ℕ, suc, ◌+◌, ◌-◌, true, [], ◌∷◌, ◌++◌, sym, ap, ◌∙◌, arith}
use Rattle.std.proofs.lemmas.Result.{err_from_is_err_and}
use Rattle.std.specs.Result.{is_ok}
use Rattle.fc_format.specs.Reading.{items}
use Rattle.fc_format.proofs.Steps.{behind, items_begun, items_more, items_stopped, items_all}
use Rattle.fc_format.proofs.field.take_items.Goals as goal

pub loop-taken-init : goal.loop-taken-init
loop-taken-init g c =
    items_begun g.T.Field.reading c.args.count c.args.cursor.now
    ∙ (ap (λ z. behind z (items g.T.Field.reading c.args.count c.args.cursor.now)) (sym c.new-all.ensures.items)
    ∙ ap (λ (k : ℕ). behind c.new-all.result.items (items g.T.Field.reading k c.args.cursor.now)) (let e : c.args.count ≡ c.args.count - 0 = omega arith in e))

pub returns-in_err-item : goal.returns-in_err-item
returns-in_err-item g c =
    let p = err_from_is_err_and c.from_residual.result c.from_residual.ensures.1 in
    let test = c.loop-taken-test.true in
    let e : c.args.count - c.loop-taken.taken ≡ suc (c.args.count - (c.loop-taken.taken + 1)) = omega (arith, test) in
    rw (p.1, p.2) (items_stopped g.T.Field.reading c.args.count (c.args.count - (c.loop-taken.taken + 1)) c.args.cursor.now c.loop-taken.cursor c.read.new.cursor c.loop-taken.all.items _
    (c.loop-taken.invariant ∙ ap (λ (k : ℕ). behind c.loop-taken.all.items (items g.T.Field.reading k c.loop-taken.cursor)) e) c.in_err-item.ensures)

pub loop-taken-preserved : goal.loop-taken-preserved
loop-taken-preserved g c =
    let test = c.loop-taken-test.true in
    let e : c.args.count - c.loop-taken.taken ≡ suc (c.args.count - (c.loop-taken.taken + 1)) = omega (arith, test) in
    let done : is_ok c.push.result ≡ true = c.if-is_err.ensures.negation in
    let pushed : c.push.new.self.items ≡ c.loop-taken.all.items ++ c.in_ok-item.item ∷ [] = rw done at c.push.ensures.items in
    items_more g.T.Field.reading c.args.count (c.args.count - (c.loop-taken.taken + 1)) c.args.cursor.now c.loop-taken.cursor c.read.new.cursor c.loop-taken.all.items c.in_ok-item.item
    (c.loop-taken.invariant ∙ ap (λ (k : ℕ). behind c.loop-taken.all.items (items g.T.Field.reading k c.loop-taken.cursor)) e) c.in_ok-item.ensures
    ∙ ap (λ z. behind z (items g.T.Field.reading (c.args.count - (c.loop-taken.taken + 1)) c.read.new.cursor)) (sym pushed)

pub returns : goal.returns
returns g c =
    let test = c.loop-taken-test.false in
    let e : c.args.count - c.loop-taken.taken ≡ 0 = omega (arith, test) in
    items_all g.T.Field.reading c.args.count c.args.cursor.now c.loop-taken.cursor c.loop-taken.all.items
    (c.loop-taken.invariant ∙ ap (λ (k : ℕ). behind c.loop-taken.all.items (items g.T.Field.reading k c.loop-taken.cursor)) e)
