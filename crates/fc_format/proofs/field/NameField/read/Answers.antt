use Rattle.std.proofs.Common.{◌≡◌, ℕ, ◌+◌, ◌-◌, List, ap, sym, ◌∙◌, drop, take, length, arith}
use Rattle.std.specs.Prelude.{is_some}
use Rattle.std.proofs.lemmas.Grind.{common_steps}
use Rattle.fc_base.specs.Names.{is_name}
use Rattle.fc_format.specs.Left.{passed}
use Rattle.fc_format.proofs.Steps.{name_none, name_short, name_wrong, name_right, not_named, bad_there}
use Rattle.fc_format.proofs.field.NameField.read.Goals as goal

-- the bytes behind the first
rest_of : (b s : List ℕ) → b ≡ s → take (length b - 1) (drop 1 b) ≡ drop 1 s
rest_of b s e = let whole : take (length b - 1) (drop 1 b) ≡ drop 1 b = grind (arith, common_steps) in whole ∙ ap (drop 1) e

-- as many of them as the first says
text_of : (n m : ℕ) (rest : List ℕ) → m ≡ n → take m rest ≡ take n rest
text_of n m rest e = ap (λ (k : ℕ). take k rest) e

pub returns-in-None : goal.returns-in-None
returns-in-None c = bad_there _ c.args.cursor.now c.args.cursor.now c.damaged.result c.damaged.ensures (name_none c.args.cursor.now c.in-None.ensures.value)

pub returns-then-rest-count : goal.returns-then-rest-count
returns-then-rest-count c =
    bad_there _ c.args.cursor.now c.args.cursor.now c.damaged-then-rest-count.result c.damaged-then-rest-count.ensures
    (name_short c.args.cursor.now (take (length c.bytes.result.now - 1) (drop 1 c.bytes.result.now)) c.in-Some.count c.in-Some.ensures.value
    (rest_of c.bytes.result.now c.args.cursor.now.bytes c.bytes.ensures) (let t = c.if-rest-count.true in let k = c.from-count.ensures in omega (arith, t, k)))

pub returns-in-Ok-Some : goal.returns-in-Ok-Some
returns-in-Ok-Some c =
    let t = text_of c.in-Some.count c.from-count.result (take (length c.bytes.result.now - 1) (drop 1 c.bytes.result.now)) c.from-count.ensures in
    let good = c.in-Ok-Some.ensures.found.0 (ap is_some c.in-Ok-Some.field-0-is) in
    let value = rw c.in-Ok-Some.field-0-is at c.in-Ok-Some.ensures.value in
    name_right c.args.cursor.now (take (length c.bytes.result.now - 1) (drop 1 c.bytes.result.now)) c.in-Some.count c.in-Some.ensures.value
    (rest_of c.bytes.result.now c.args.cursor.now.bytes c.bytes.ensures) c.in-Ok-Some.name c.skip.new.self (let f = c.if-rest-count.false in let k = c.from-count.ensures in omega (arith, f, k))
    (sym (ap is_name t) ∙ good) (value ∙ t) (c.skip.ensures ∙ ap (λ (k : ℕ). passed (1 + k) c.args.cursor.now) c.from-count.ensures)

pub returns-in-Ok-None : goal.returns-in-Ok-None
returns-in-Ok-None c =
    let t = text_of c.in-Some.count c.from-count.result (take (length c.bytes.result.now - 1) (drop 1 c.bytes.result.now)) c.from-count.ensures in
    let found = rw c.in-Ok-None.field-0-is at c.in-Ok-None.ensures.found in
    bad_there _ c.args.cursor.now c.args.cursor.now c.damaged-in-Ok-None.result c.damaged-in-Ok-None.ensures
    (name_wrong c.args.cursor.now (take (length c.bytes.result.now - 1) (drop 1 c.bytes.result.now)) c.in-Some.count c.in-Some.ensures.value
    (rest_of c.bytes.result.now c.args.cursor.now.bytes c.bytes.ensures) (let f = c.if-rest-count.false in let k = c.from-count.ensures in omega (arith, f, k))
    (sym (ap is_name t) ∙ not_named _ found))
