use Rattle.std.proofs.Common.{suc, ◌∙◌, refl, arith}
use Rattle.fc_yard.specs.Steps.{in_hand}
use Rattle.fc_yard.proofs.Turning.{unparks_at}
use Rattle.fc_yard.proofs.Counting.{draws_for}
use Rattle.fc_yard.proofs.Sitting.{first_slot, exchanged, at_rest, unparked, drawn_for, next_same}
use Rattle.fc_yard.proofs.numbers.draw_for.Goals as goal

pub load-requires : goal.load-requires
load-requires g c =
    let sized = c.requires.table.1 in let near = c.requires.table.2 in let rest = c.requires.ready.0 in (
      c.requires.table.0,
      omega (arith, sized.0, near),
      unparks_at g.P.Part.fits g.P.Part.sound g.P.Part.count g.P.Part.steps c.args.shelf.now.key c.args.shelf.now.table_id.slots c.args.parts sized.1 c.args.seat.now.id c.args.part near
          c.args.seat.now.me c.args.seat.now.me.0 (at_rest c.args.seat.now.me rest.0) rest.2 rest.1 c.requires.ready.1,
    )

pub exchange-requires : goal.exchange-requires
exchange-requires g c =
    let out = c.load.ensures.2 c.args.part refl in
    let hand = unparked c.args.seat.now.me c.load.new.seat.me c.args.part out.0 c.requires.ready.0.0 out.1 in
    (c.load.ensures.0 ∙ c.requires.table.0, (out.0, first_slot c.load.new.seat.me c.args.part out.0 hand.1))

pub fetch_add-requires : goal.fetch_add-requires
fetch_add-requires g c =
    let sized = c.requires.table.1 in let near = c.requires.table.2 in let rest = c.requires.ready.0 in
    let out = c.load.ensures.2 c.args.part refl in let went = c.exchange.ensures in
    let hand = unparked c.args.seat.now.me c.load.new.seat.me c.args.part out.0 rest.0 out.1 in (
      went.0 ∙ c.load.ensures.0 ∙ c.requires.table.0,
      omega (arith, sized.0),
      draws_for g.P.Part.fits g.P.Part.sound g.P.Part.count g.P.Part.steps c.args.shelf.now.key c.args.shelf.now.table_id.slots c.args.parts sized.1 c.exchange.new.seat.id
          c.exchange.new.seat.me c.args.seat.now.me.0 c.args.part near rest.2 c.requires.ready.2 c.requires.ready.3 c.args.deed
          (exchanged c.load.new.seat.me c.exchange.new.seat.me (in_hand c.args.seat.now.me.0 (suc c.args.part)) c.args.part out.0 c.args.deed hand.0 hand.1 went.3) c.requires.ready.1 c.requires.commits,
    )

pub returns-clause-seat : goal.returns-clause-seat
returns-clause-seat g c =
    let out = c.load.ensures.2 c.args.part refl in let went = c.exchange.ensures in (
      (c.fetch_add.ensures.0 ∙ went.0 ∙ c.load.ensures.0, c.fetch_add.ensures.1 ∙ went.1 ∙ c.load.ensures.1),
      drawn_for g.P.Part.fits g.P.Part.sound g.P.Part.count g.P.Part.steps c.args.seat.now.me c.load.new.seat.me c.exchange.new.seat.me c.fetch_add.new.seat.me c.args.part c.fetch_add.result out.0
          c.args.deed c.requires.ready.0.0 out.1 went.3 (c.fetch_add.ensures.2.3 c.args.part c.args.deed),
    )

pub returns-clause-number : goal.returns-clause-number
returns-clause-number g c =
    let rest = c.requires.ready.0 in let out = c.load.ensures.2 c.args.part refl in let went = c.exchange.ensures in let drew = c.fetch_add.ensures.2 in
    let hand = unparked c.args.seat.now.me c.load.new.seat.me c.args.part out.0 rest.0 out.1 in
    next_same c.args.seat.now.me.0 (suc c.args.part) c.exchange.new.seat.me c.args.deed c.args.part c.fetch_add.result
    (exchanged c.load.new.seat.me c.exchange.new.seat.me (in_hand c.args.seat.now.me.0 (suc c.args.part)) c.args.part out.0 c.args.deed hand.0 hand.1 went.3)
    (drew.0, drew.1, drew.2)
