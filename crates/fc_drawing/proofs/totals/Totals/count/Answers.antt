use Rattle.std.proofs.Common.{arith}
use Rattle.std.proofs.lemmas.Grind.{common_steps}
use Rattle.fc_drawing.proofs.Counting.{counted_new, counted_there}
use Rattle.fc_drawing.proofs.totals.Totals.count.Goals as goal

pub returns-then-place-len-clause-counted : goal.returns-then-place-len-clause-counted
returns-then-place-len-clause-counted c = grind (arith, common_steps, counted_there)

pub returns-clause-counted : goal.returns-clause-counted
returns-clause-counted c =
    let last = counted_new c.args.from c.args.to c.args.in_place c.args.self.now c.place_of-place.result in
    grind (arith, common_steps, last)
