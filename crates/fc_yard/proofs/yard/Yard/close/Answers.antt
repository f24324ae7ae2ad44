use Rattle.std.proofs.Common.{sym, ◌∙◌, subst}
use Rattle.std.specs.Slots.{slots_items}
use Rattle.fc_yard.specs.Homes.{homes_of}
use Rattle.fc_yard.specs.Views.{held_of}
use Rattle.fc_yard.specs.Whole.{IsClosed}
use Rattle.fc_yard.proofs.Sharing.{closes}
use Rattle.fc_yard.proofs.Sitting.{view_at}
use Rattle.fc_yard.proofs.yard.Yard.close.Goals as goal

pub gather-requires-clause-home : goal.gather-requires-clause-home
gather-requires-clause-home g c =
    let seat = c.pass.inside.seat in
    let shares = view_at (λ v. v.shares) seat.table_id seat.me c.args.pass c.pass.view_is in let passes = view_at (λ v. v.passes) seat.table_id seat.me c.args.pass c.pass.view_is in
    (closes g.P.Part.fits g.P.Part.sound g.P.Part.count g.P.Part.steps c.self.inside.table.shared.key seat.id seat.me.0 (slots_items c.close_with.result.words) (slots_items c.close_with.result.slots)
    c.close_with.ensures.values.2 c.pass.invariant.2 (shares ∙ c.requires.all ∙ sym passes) (λ q. view_at (λ v. held_of v q) seat.table_id seat.me c.args.pass c.pass.view_is ∙ c.requires.free q)).0

pub returns : goal.returns
returns g c =
    let seat = c.pass.inside.seat in let xs = homes_of (slots_items c.close_with.result.slots) in
    let shares = view_at (λ v. v.shares) seat.table_id seat.me c.args.pass c.pass.view_is in let passes = view_at (λ v. v.passes) seat.table_id seat.me c.args.pass c.pass.view_is in (
      xs,
      c.gather.ensures,
      subst (λ v. IsClosed g.P.Part.fits g.P.Part.sound g.P.Part.count g.P.Part.steps v xs) (view_at (λ v. v) seat.table_id seat.me c.args.pass c.pass.view_is)
          (closes g.P.Part.fits g.P.Part.sound g.P.Part.count g.P.Part.steps c.self.inside.table.shared.key seat.id seat.me.0 (slots_items c.close_with.result.words) (slots_items c.close_with.result.slots)
          c.close_with.ensures.values.2 c.pass.invariant.2 (shares ∙ c.requires.all ∙ sym passes) (λ q. view_at (λ v. held_of v q) seat.table_id seat.me c.args.pass c.pass.view_is ∙ c.requires.free q)).1,
    )
