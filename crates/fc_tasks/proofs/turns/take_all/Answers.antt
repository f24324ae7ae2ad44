use Rattle.std.proofs.Common.{◌+◌, ◌∷◌, [], ap, sym, ◌∙◌, subst, arith, length, length-append}
use Rattle.fc_yard.specs.Rule.{account}
use Rattle.fc_yard.specs.Views.{held_of}
use Rattle.fc_yard.specs.Calls.{IsPassOf}
use Rattle.fc_tasks.specs.Acting.{at_or_none}
use Rattle.fc_tasks.proofs.AllParts.{just_took, past_end}
use Rattle.fc_tasks.proofs.turns.take_all.Goals as goal

pub take-value-requires-clause-yard : goal.take-value-requires-clause-yard
take-value-requires-clause-yard g c κs within = c.loop-part.invariant.yard

pub take-value-requires-clause-free : goal.take-value-requires-clause-free
take-value-requires-clause-free g c κs within = let inv = c.loop-part.invariant in inv.held c.loop-part.part ∙ past_end c.loop-part.parts.items c.loop-part.part (omega (arith, inv.count))

pub loop-part-preserved : goal.loop-part-preserved
loop-part-preserved g c =
    let inv = c.loop-part.invariant in let taken = c.take-value.ensures.taken in let x = c.take-value.result in let items = c.loop-part.parts.items in record {
      yard = subst (λ q. IsPassOf c.args.yard.now q) (sym taken) inv.yard;
      books = ap (λ q. account q.view) taken ∙ inv.books;
      held = λ p. ap (λ q. held_of q.view p) taken ∙ just_took c.loop-part.pass.view items c.loop-part.part x (sym inv.count) inv.held p ∙ sym (ap (λ l. at_or_none l p) c.push_reserved.ensures.items);
      count = ap (λ l. length l) c.push_reserved.ensures.items ∙ length-append items (x ∷ []) ∙ ap (λ n. n + 1) inv.count;
      room = omega (arith, c.push_reserved.ensures.capacity, inv.room);
    }
