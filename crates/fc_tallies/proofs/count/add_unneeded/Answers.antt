use Rattle.std.proofs.Common.{rules, ◌<◌, ◌∙◌, length, arith}
use Rattle.fc_base.specs.Counts.{is_unneeded}
use Rattle.fc_tallies.proofs.Fronts.{always_err, first_added}
use Rattle.fc_tallies.proofs.count.add_unneeded.Goals as goal

pub returns-in_err-push-clause-err : goal.returns-in_err-push-clause-err
returns-in_err-push-clause-err c =
    let below : c.loop-place.place < length c.args.slots.now = search rules in
    always_err c.from_residual.result
    (first_added c.args.slots.now (is_unneeded c.args.slots.now) c.loop-place.place (length c.args.slots.now) c.args.out.now c.push.new.self
    (omega (arith, below)) (c.in_err-push.ensures.err ∙ c.loop-place.invariant))
