use Rattle.std.proofs.Common.{ap, sym, ◌∙◌, refl, subst, arith}
use mathlib.Core.Option.{none}
use Rattle.fc_yard.specs.Views.{held_of, took}
use Rattle.fc_yard.specs.Whole.{Knows}
use Rattle.fc_yard.specs.Steps.{in_hand}
use Rattle.fc_yard.proofs.Turning.{wins}
use Rattle.fc_yard.proofs.Sitting.{view_at, yard_at, stays_seen, becomes, view_of, at_rest, rests, won_hand, taken_view, same_part}
use Rattle.fc_yard.proofs.yard.Yard.take_or_mark.Goals as goal

pub swap-requires : goal.swap-requires
swap-requires g c =
    let sized = c.self.invariant.0 in let seat = c.pass.inside.seat in let rest = c.pass.invariant in
    let parts = ap (λ y. y.parts) c.self.view_is in (
      yard_at seat.table_id seat.me c.args.pass.now c.pass.view_is ∙ c.requires.yard.0 ∙ sym (ap (λ y. y.id) c.self.view_is),
      omega (arith, sized.0, sized.1, c.requires.part, parts),
      wins g.P.Part.fits g.P.Part.sound g.P.Part.count g.P.Part.steps c.self.inside.table.shared.key c.self.inside.table.shared.table_id.slots seat.id c.args.part (omega (arith, sized.1, c.requires.part, parts))
          2 0 none (λ _. 2) seat.me (λ e. omega arith) (λ m n e. omega arith) rest.2 rest.1 (view_at (λ v. held_of v c.args.part) seat.table_id seat.me c.args.pass.now c.pass.view_is ∙ c.requires.free),
    )

pub invariant_of-pass : goal.invariant_of-pass
invariant_of-pass g c =
    let same = ((c.swap.ensures.2 c.args.part refl).1 c.if-swap-ne0.true).0 in let seat = c.pass.inside.seat in let rest = c.pass.invariant in
    rests seat.me c.swap.new.seat.me seat.me.0 rest.2 refl rest.1 (same ∙ at_rest seat.me rest.0)

pub returns-then-swap-ne0-clause-out : goal.returns-then-swap-ne0-clause-out
returns-then-swap-ne0-clause-out g c =
    let out = (c.swap.ensures.2 c.args.part refl).1 c.if-swap-ne0.true in let seat = c.pass.inside.seat in let now = c.swap.new.seat in
    stays_seen seat.table_id now.table_id seat.me now.me c.args.pass.now c.pass.view_is c.swap.ensures.0 (view_of now.me seat.me out.0)

pub bring_out-requires-clause-won : goal.bring_out-requires-clause-won
bring_out-requires-clause-won g c κs within =
    let took = (c.swap.ensures.2 c.args.part refl).0 c.if-swap-ne0.false in let seat = c.pass.inside.seat in let rest = c.pass.invariant in
    (took.0, won_hand seat.me c.swap.new.seat.me c.args.part took.0 rest.0 rest.2 took.1)

pub invariant_of-pass-2 : goal.invariant_of-pass-2
invariant_of-pass-2 g c =
    let took = (c.swap.ensures.2 c.args.part refl).0 c.if-swap-ne0.false in let seat = c.pass.inside.seat in let rest = c.pass.invariant in
    let won = won_hand seat.me c.swap.new.seat.me c.args.part took.0 rest.0 rest.2 took.1 in
    rests c.swap.new.seat.me c.bring_out.new.seat.me (in_hand c.swap.new.seat.me.0 0) won.2 refl refl c.bring_out.ensures.seat.1

pub returns-clause-taken : goal.returns-clause-taken
returns-clause-taken g c =
    let won = (c.swap.ensures.2 c.args.part refl).0 c.if-swap-ne0.false in let seat = c.pass.inside.seat in
    let held = c.swap.new.seat in let now = c.bring_out.new.seat in
    let is = taken_view seat.me held.me now.me c.args.part won.0 won.1 c.bring_out.ensures.seat.1 in
    let same = same_part seat.me held.me c.args.part won.0 c.bring_out.result won.1 c.bring_out.ensures.part in (
      becomes (λ v. took v c.args.part c.bring_out.result) seat.table_id now.table_id seat.me now.me c.args.pass.now c.pass.view_is (c.bring_out.ensures.seat.0.0 ∙ c.swap.ensures.0)
          (is ∙ ap (λ x. took seat.me.0 c.args.part x) same),
      subst (λ v. Knows g.P.Part.fits g.P.Part.sound g.P.Part.count g.P.Part.steps v) (sym is) won.2,
    )
