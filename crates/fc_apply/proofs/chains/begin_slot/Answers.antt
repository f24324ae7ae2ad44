use Rattle.std.proofs.Common.{List, Bool, is_some, sym, ap, subst, ◌∙◌}
use Rattle.fc_apply.specs.Events.{IsBeginning}
use Rattle.fc_apply.proofs.Beginning.{begin_all, begin_inside, begin_next, begin_none, begin_there, fewer_left, first_none}
use Rattle.fc_apply.proofs.chains.begin_slot.Goals as goal

pub returns-in_default : goal.returns-in_default
returns-in_default c = begin_none c.args.cascade.now c.args.pair.now c.args.changes.now.rows c.requires (sym c.restart.ensures.followed ∙ ap is_some c.in_default.is)

pub loop-place-init : goal.loop-place-init
loop-place-init c =
    let b = subst (λ (z : List Bool). IsBeginning c.args.cascade.now.sheet c.args.pair.now z) (sym c.in-Some.ensures.grains) c.requires in
    first_none c.args.cascade.now c.args.pair.now c.in-Some.same.now b

pub number-grain-requires-clause-there : goal.number-grain-requires-clause-there
number-grain-requires-clause-there c =
    let b = subst (λ (z : List Bool). IsBeginning c.args.cascade.now.sheet c.args.pair.now z) (sym c.in-Some.ensures.grains) c.requires in
    begin_there c.args.cascade.now c.args.pair.now c.in-Some.same.now b c.in-Some-slot.slot c.in-Some-slot.ensures.there c.loop-place.from c.loop-place.cascade c.loop-place.invariant

pub number-grain-requires-clause-inside : goal.number-grain-requires-clause-inside
number-grain-requires-clause-inside c =
    let b = subst (λ (z : List Bool). IsBeginning c.args.cascade.now.sheet c.args.pair.now z) (sym c.in-Some.ensures.grains) c.requires in
    begin_inside c.args.cascade.now c.args.pair.now c.in-Some.same.now b c.in-Some-slot.slot c.in-Some-slot.ensures.there c.loop-place.from c.loop-place.cascade c.loop-place.invariant c.in-Some-next_set.place
    (sym c.next_set.ensures ∙ c.in-Some-next_set.is)

pub moved-requires-clause-there : goal.moved-requires-clause-there
moved-requires-clause-there c =
    let b = subst (λ (z : List Bool). IsBeginning c.args.cascade.now.sheet c.args.pair.now z) (sym c.in-Some.ensures.grains) c.requires in
    begin_there c.args.cascade.now c.args.pair.now c.in-Some.same.now b c.in-Some-slot.slot c.in-Some-slot.ensures.there c.loop-place.from c.loop-place.cascade c.loop-place.invariant

pub loop-place-smaller : goal.loop-place-smaller
loop-place-smaller c = fewer_left c.in-Some.same.now c.loop-place.from c.in-Some-next_set.place (sym c.next_set.ensures ∙ c.in-Some-next_set.is)

pub loop-place-preserved : goal.loop-place-preserved
loop-place-preserved c =
    let b = subst (λ (z : List Bool). IsBeginning c.args.cascade.now.sheet c.args.pair.now z) (sym c.in-Some.ensures.grains) c.requires in
    begin_next c.args.cascade.now c.args.pair.now c.in-Some.same.now b c.in-Some-slot.slot c.in-Some-slot.ensures.there c.loop-place.from c.loop-place.cascade c.loop-place.invariant c.in-Some-next_set.place c.number-grain.result
    c.moved.new.self (sym c.next_set.ensures ∙ c.in-Some-next_set.is) c.number-grain.ensures.place c.moved.ensures

pub returns : goal.returns
returns c =
    let b = subst (λ (z : List Bool). IsBeginning c.args.cascade.now.sheet c.args.pair.now z) (sym c.in-Some.ensures.grains) c.requires in
    begin_all c.args.cascade.now c.args.pair.now c.in-Some.same.now b c.loop-place.from c.loop-place.cascade c.args.changes.now.rows c.in-Some.ensures.grains c.loop-place.invariant
    (sym c.next_set.ensures ∙ c.in_default-next_set.is)
