use Rattle.std.proofs.Common.{suc, ◌∙◌, refl, arith}
use Rattle.fc_yard.specs.declared.rule.Stall.TheVariants.{Home}
use Rattle.fc_yard.specs.Steps.{in_hand}
use Rattle.fc_yard.proofs.Turning.{unparks, given_back}
use Rattle.fc_yard.proofs.Sitting.{first_slot, exchanged, at_rest, unparked, gives_home}
use Rattle.fc_yard.proofs.turns.bring_home.Goals as goal

pub load-requires : goal.load-requires
load-requires g c =
    let sized = c.requires.table.1 in let near = c.requires.table.2 in let rest = c.requires.held.0 in (
      c.requires.table.0,
      omega (arith, sized.0, sized.1, near),
      unparks g.P.Part.fits g.P.Part.sound g.P.Part.count g.P.Part.steps c.args.shelf.now.key c.args.shelf.now.table_id.slots c.args.seat.now.id c.args.part near
          c.args.seat.now.me c.args.seat.now.me.0 (at_rest c.args.seat.now.me rest.0) rest.2 rest.1 c.requires.held.1,
    )

pub exchange-requires : goal.exchange-requires
exchange-requires g c =
    let out = c.load.ensures.2 c.args.part refl in
    let hand = unparked c.args.seat.now.me c.load.new.seat.me c.args.part out.0 c.requires.held.0.0 out.1 in
    (c.load.ensures.0 ∙ c.requires.table.0, (out.0, first_slot c.load.new.seat.me c.args.part out.0 hand.1))

pub swap-requires : goal.swap-requires
swap-requires g c =
    let sized = c.requires.table.1 in let near = c.requires.table.2 in let rest = c.requires.held.0 in
    let out = c.load.ensures.2 c.args.part refl in let went = c.exchange.ensures in
    let hand = unparked c.args.seat.now.me c.load.new.seat.me c.args.part out.0 rest.0 out.1 in (
      went.0 ∙ c.load.ensures.0 ∙ c.requires.table.0,
      omega (arith, sized.0, sized.1, near),
      given_back g.P.Part.fits g.P.Part.sound g.P.Part.count g.P.Part.steps c.args.shelf.now.key c.args.shelf.now.table_id.slots c.exchange.new.seat.id c.args.part near
          c.exchange.new.seat.me (in_hand c.args.seat.now.me.0 (suc c.args.part)) c.args.value
          (exchanged c.load.new.seat.me c.exchange.new.seat.me (in_hand c.args.seat.now.me.0 (suc c.args.part)) c.args.part out.0 (Home c.args.value) hand.0 hand.1 went.3) rest.2 refl c.requires.held.1 c.requires.stays,
    )

pub returns : goal.returns
returns g c =
    let rest = c.requires.held.0 in let out = c.load.ensures.2 c.args.part refl in let went = c.exchange.ensures in (
      (c.swap.ensures.0 ∙ went.0 ∙ c.load.ensures.0, c.swap.ensures.1 ∙ went.1 ∙ c.load.ensures.1),
      gives_home c.args.seat.now.me c.load.new.seat.me c.exchange.new.seat.me c.swap.new.seat.me c.args.part out.0 c.args.value rest.0 out.1 went.3 (c.swap.ensures.2 c.args.part c.args.value),
    )
