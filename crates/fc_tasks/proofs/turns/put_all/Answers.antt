use Rattle.std.proofs.Common.{◌≡◌, ◌+◌, ◌∷◌, [], ◌++◌, ap, sym, ◌∙◌, subst, arith, length, length-append, Some}
use Rattle.std.specs.Option.{option_to_list}
use Rattle.fc_yard.specs.Rule.{account}
use Rattle.fc_yard.specs.Views.{held_of}
use Rattle.fc_yard.specs.Calls.{IsPassOf}
use Rattle.fc_tasks.specs.Acting.{at_or_none, HoldsJust}
use Rattle.fc_tasks.proofs.AllParts.{just_put, last_held}
use Rattle.fc_tasks.proofs.Doing.{stays_same}
use Rattle.fc_tasks.proofs.turns.put_all.Goals as goal

pub put-requires-clause-yard : goal.put-requires-clause-yard
put-requires-clause-yard g c κs within = c.loop-value.invariant.yard

pub put-requires-clause-held : goal.put-requires-clause-held
put-requires-clause-held g c κs within =
    let v = c.loop-value.pass.view in let x = c.in-Some.value in
    (x, last_held v c.pop.new.self.items c.len.result x (omega (arith, c.len.ensures)) (subst (λ l. HoldsJust v l) c.in-Some.ensures.items c.loop-value.invariant.held))

pub put-requires-clause-stays : goal.put-requires-clause-stays
put-requires-clause-stays g c κs within =
    let v = c.loop-value.pass.view in let x = c.in-Some.value in
    stays_same g.P.Part.fits g.P.Part.sound g.P.Part.count g.P.Part.steps v c.len.result x x
    (last_held v c.pop.new.self.items c.len.result x (omega (arith, c.len.ensures)) (subst (λ l. HoldsJust v l) c.in-Some.ensures.items c.loop-value.invariant.held))

pub loop-value-preserved : goal.loop-value-preserved
loop-value-preserved g c =
    let inv = c.loop-value.invariant in let put = c.put.ensures in let items = c.pop.new.self.items in let x = c.in-Some.value in
    let was = ap (λ l. length l) c.in-Some.ensures.items in let one = length-append items (x ∷ []) in let few = inv.few in record {
      yard = subst (λ q. IsPassOf c.args.yard.now q) (sym put) inv.yard;
      books = ap (λ q. account q.view) put ∙ inv.books;
      held = λ p. ap (λ q. held_of q.view p) put
          ∙ just_put c.loop-value.pass.view items c.len.result x (omega (arith, c.len.ensures)) (subst (λ l. HoldsJust c.loop-value.pass.view l) c.in-Some.ensures.items inv.held) p;
      few = omega (arith, was, one, few);
    }
