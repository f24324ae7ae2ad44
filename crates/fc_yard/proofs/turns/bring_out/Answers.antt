use Rattle.std.proofs.Common.{◌∙◌, refl, arith}
use Rattle.fc_yard.specs.declared.rule.Stall.TheVariants.{Home, Out}
use Rattle.fc_yard.proofs.Turning.{parks}
use Rattle.fc_yard.proofs.Sitting.{first_slot, exchanged}
use Rattle.fc_yard.proofs.turns.bring_out.Goals as goal

pub exchange-stall-requires : goal.exchange-stall-requires
exchange-stall-requires g c =
    let w = c.requires.won in
    (c.requires.table.0, (Home w.0, first_slot c.args.seat.now.me c.args.part (Home w.0) w.1.0))

pub load-requires : goal.load-requires
load-requires g c =
    let w = c.requires.won in let went = c.exchange-stall.ensures in let sized = c.requires.table.1 in let near = c.requires.table.2 in (
      went.0 ∙ c.requires.table.0,
      omega (arith, sized.0, sized.1, near),
      parks g.P.Part.fits g.P.Part.sound g.P.Part.count g.P.Part.steps c.args.shelf.now.key c.args.shelf.now.table_id.slots c.exchange-stall.new.seat.id c.args.part near
          c.exchange-stall.new.seat.me c.args.seat.now.me.0 Out (exchanged c.args.seat.now.me c.exchange-stall.new.seat.me c.args.seat.now.me.0 c.args.part (Home w.0) Out refl w.1.0 went.3) w.1.2 w.1.1 w.1.3,
    )
