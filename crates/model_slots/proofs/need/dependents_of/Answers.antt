use Rattle.std.proofs.Common.{◌↔◌, IsTrue, List, ℕ, subst}
use Rattle.model_slots.specs.Answers.{Joins}
use Rattle.model_slots.proofs.Needs.{one_more, all_found}
use Rattle.model_slots.proofs.need.dependents_of.Goals as goal

pub loop-place-preserved : goal.loop-place-preserved
loop-place-preserved c =
    let P : List ℕ → Type 0 = λ z. IsTrue c.joins-is_there.result ↔ Joins c.args.slots.now c.args.on c.loop-place.place z in
    one_more c.args.slots.now c.args.on c.loop-place.place c.loop-place.listed c.push_where.new.places c.joins-is_there.result c.loop-place.invariant c.loop-place-test.true
    (subst P c.as_slice.ensures c.joins-is_there.ensures) c.in_ok-push_where.ensures

pub returns : goal.returns
returns c = all_found c.args.slots.now c.args.on c.loop-place.place c.loop-place.listed c.loop-place.invariant c.loop-place-test.false
