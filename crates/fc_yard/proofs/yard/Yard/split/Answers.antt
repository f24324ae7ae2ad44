use Rattle.std.proofs.Common.{ap, sym, ◌∙◌, arith}
use Rattle.fc_yard.proofs.Sharing.{splits}
use Rattle.fc_yard.proofs.Sitting.{view_at, yard_at}
use Rattle.fc_yard.proofs.yard.Yard.split.Goals as goal

pub split_seat-requires : goal.split_seat-requires
split_seat-requires g c =
    let sized = c.self.invariant.0 in let seat = c.pass.inside.seat in let shares = view_at (λ v. v.shares) seat.table_id seat.me c.args.pass.now c.pass.view_is in (
      yard_at seat.table_id seat.me c.args.pass.now c.pass.view_is ∙ c.requires.yard.0 ∙ sym (ap (λ y. y.id) c.self.view_is),
      omega (arith, sized.0),
      splits g.P.Part.fits g.P.Part.sound g.P.Part.count g.P.Part.steps c.self.inside.table.shared.key seat.id seat.me.0 (omega (arith, c.requires.shares, shares)),
    )
