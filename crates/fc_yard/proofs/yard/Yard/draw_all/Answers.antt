use Rattle.std.proofs.Common.{◌∙◌, ap, sym, refl, subst, arith}
use Rattle.fc_yard.specs.Views.{held_of, drew_all}
use Rattle.fc_yard.specs.Whole.{Knows}
use Rattle.fc_yard.proofs.Sitting.{view_at, view_of, becomes, rests, drawn_all, commits_all_as}
use Rattle.fc_yard.proofs.yard.Yard.draw_all.Goals as goal

pub draw_for-requires-clause-ready : goal.draw_for-requires-clause-ready
draw_for-requires-clause-ready g c κs within =
    let seat = c.pass.inside.seat in let has = c.requires.ticket in let held = c.requires.held 0 c.requires.parts.0 in
    let tickets = view_at (λ v. v.tickets) seat.table_id seat.me c.args.pass.now c.pass.view_is in let limit = view_at (λ v. v.limit) seat.table_id seat.me c.args.pass.now c.pass.view_is in
    let same = c.requires.yard.1 in let most = c.self.invariant.2 in let read = ap (λ y. y.limit) c.self.view_is in
    (c.pass.invariant, (held.0, view_at (λ v. held_of v 0) seat.table_id seat.me c.args.pass.now c.pass.view_is ∙ held.1), omega (arith, has, tickets), omega (arith, limit, same, most, read))

pub draw_for-requires-clause-commits : goal.draw_for-requires-clause-commits
draw_for-requires-clause-commits g c κs within =
    let seat = c.pass.inside.seat in let parts = ap (λ y. y.parts) c.self.view_is in let view = view_at (λ v. v) seat.table_id seat.me c.args.pass.now c.pass.view_is in
    let news = ap (λ x. x.items) c.of-2.ensures in (
      (λ p near. let held = c.requires.held p (omega (arith, near, parts)) in (held.0, view_at (λ v. held_of v p) seat.table_id seat.me c.args.pass.now c.pass.view_is ∙ held.1)),
      ap (λ l. Rattle.std.proofs.Common.length l) news ∙ c.requires.parts.1 ∙ sym parts,
      commits_all_as g.P.Part.fits g.P.Part.sound g.P.Part.count g.P.Part.steps c.args.self.now.parts c.self.inside.parts c.args.pass.now.view seat.me.0 c.of-2.result.value.items c.args.values.now.items
          c.of.result.value c.args.entry.now parts view news c.of.ensures c.requires.commits,
    )

pub invariant_of-pass : goal.invariant_of-pass
invariant_of-pass g c =
    let seat = c.pass.inside.seat in let now = c.draw_for.new.seat in let drawn = c.draw_for.ensures.seat.1 in
    rests seat.me now.me (drew_all seat.me.0 c.of-2.result.value.items c.draw_for.result c.of.result.value) c.pass.invariant.2 refl refl drawn.0

pub returns-clause-drawn : goal.returns-clause-drawn
returns-clause-drawn g c =
    let seat = c.pass.inside.seat in let now = c.draw_for.new.seat in
    let drawn = drawn_all (Knows g.P.Part.fits g.P.Part.sound g.P.Part.count g.P.Part.steps) seat.me now.me c.draw_for.result c.of-2.result.value.items c.args.values.now.items c.of.result.value c.args.entry.now
    (ap (λ x. x.items) c.of-2.ensures) c.of.ensures c.draw_for.ensures.seat.1 in
    becomes (λ v. drew_all v c.args.values.now.items c.draw_for.result c.args.entry.now) seat.table_id now.table_id seat.me now.me c.args.pass.now c.pass.view_is c.draw_for.ensures.seat.0.0 (view_of now.me _ drawn.0)

pub returns-clause-knows : goal.returns-clause-knows
returns-clause-knows g c =
    let drawn = c.draw_for.ensures.seat.1 in
    subst (λ v. Knows g.P.Part.fits g.P.Part.sound g.P.Part.count g.P.Part.steps v) (sym (view_of c.draw_for.new.seat.me _ drawn.0)) drawn.1
