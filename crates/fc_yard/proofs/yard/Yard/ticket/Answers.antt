use Rattle.std.proofs.Common.{◌+◌, refl, ap, sym, ◌∙◌, arith}
use Rattle.fc_yard.specs.Views.{looked}
use Rattle.fc_yard.specs.Calls.{became}
use Rattle.fc_yard.proofs.Counting.{looks_at, tickets_at}
use Rattle.fc_yard.proofs.Sitting.{view_at, yard_at}
use Rattle.fc_yard.proofs.yard.Yard.ticket.Goals as goal

pub load-given-requires : goal.load-given-requires
load-given-requires g c =
    let sized = c.self.invariant.0 in let seat = c.pass.inside.seat in (
      yard_at seat.table_id seat.me c.args.pass.now c.pass.view_is ∙ c.requires.0 ∙ sym (ap (λ y. y.id) c.self.view_is),
      omega (arith, sized.0),
      looks_at g.P.Part.fits g.P.Part.sound g.P.Part.count g.P.Part.steps c.self.inside.table.shared.key c.self.inside.table.shared.table_id.slots c.self.inside.parts sized.1 seat.id seat.me c.pass.invariant.2,
    )

pub compare_exchange-found-requires : goal.compare_exchange-found-requires
compare_exchange-found-requires g c =
    let sized = c.self.invariant.0 in let seat = c.loop-given.pass-inside.seat in let h = c.loop-given.invariant in let read = ap (λ y. y.limit) c.self.view_is in
    let limit = view_at (λ v. v.limit) seat.table_id seat.me (became c.args.pass.now (looked c.args.pass.now.view c.loop-given.given)) h.sees in let below = c.loop-given-test.true in let same = c.requires.1 in (
      yard_at seat.table_id seat.me (became c.args.pass.now (looked c.args.pass.now.view c.loop-given.given)) h.sees ∙ c.requires.0 ∙ sym (ap (λ y. y.id) c.self.view_is),
      omega (arith, sized.0),
      tickets_at g.P.Part.fits g.P.Part.sound g.P.Part.count g.P.Part.steps c.self.inside.table.shared.key c.self.inside.table.shared.table_id.slots c.self.inside.parts sized.1 seat.id seat.me
          c.loop-given.given (c.loop-given.given + 1) h.rests.2 refl (omega (arith, limit, below, same, read)),
    )
