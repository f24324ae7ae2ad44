use Rattle.std.proofs.Common.{ap, sym, ◌∙◌, arith}
use Rattle.fc_yard.specs.Views.{held_of}
use Rattle.fc_yard.proofs.Sharing.{joins}
use Rattle.fc_yard.proofs.Sitting.{view_at, yard_at}
use Rattle.fc_yard.proofs.yard.Yard.join.Goals as goal

pub join_seat-requires : goal.join_seat-requires
join_seat-requires g c =
    let sized = c.self.invariant.0 in let seat = c.pass.inside.seat in let gone = c.other.inside.seat in let id = sym (ap (λ y. y.id) c.self.view_is) in (
      yard_at seat.table_id seat.me c.args.pass.now c.pass.view_is ∙ c.requires.yard.0 ∙ id,
      yard_at gone.table_id gone.me c.args.other c.other.view_is ∙ c.requires.other.0 ∙ id,
      c.other.invariant.0,
      omega (arith, sized.0),
      joins g.P.Part.fits g.P.Part.sound g.P.Part.count g.P.Part.steps c.self.inside.table.shared.key seat.id gone.id seat.me.0 gone.me.0 c.pass.invariant.2 c.other.invariant.1
          (λ p. view_at (λ v. held_of v p) gone.table_id gone.me c.args.other c.other.view_is ∙ c.requires.free p),
    )
