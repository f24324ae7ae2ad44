use Rattle.std.proofs.Common.{◌≡◌, ◌+◌, ◌<◌, ◌++◌, ◌∷◌, [], Some, ap, sym, ◌∙◌, refl, subst, arith}
use Rattle.fc_yard.specs.Views.{held_of, took, put_back, ticketed, looked, drew}
use Rattle.fc_yard.specs.Calls.{IsPassOf}
use Rattle.fc_yard.specs.Whole.{OpensWith}
use Rattle.fc_yard.proofs.Calling.{only_took, only_drew}
use Rattle.fc_tasks.specs.Acting.{AreRising}
use Rattle.fc_tasks.proofs.Passing.{two, held_then, free_put, free_refused, free_drawn, of_pass, rising_more, same_pass}
use Rattle.fc_tasks.proofs.Doing.{stays_with, stays_same, is_part, commits_with}
use Rattle.fc_tasks.proofs.actor.Actor.do_in.Goals as goal

pub returns-then-is_err-clause-acting : goal.returns-then-is_err-clause-acting
returns-then-is_err-clause-acting g c = let was = c.requires.acting in record { free = was.free; suited = was.suited; made = c.reserve.ensures.items ∙ was.made; rises = was.rises }

pub returns-then-is_err-clause-same : goal.returns-then-is_err-clause-same
returns-then-is_err-clause-same g c = record { openings = refl; first = refl; limit = refl; passes = refl; shares = refl }

pub returns-then-is_err-clause-not : goal.returns-then-is_err-clause-not
returns-then-is_err-clause-not g c = record { stays = record { made = c.reserve.ensures.items; script = refl }; stopped = tt }

pub put-requires-clause-yard : goal.put-requires-clause-yard
put-requires-clause-yard g c κs within = subst (λ q. IsPassOf c.args.yard.now q) (sym c.take-value.ensures.taken) c.requires.acting.free.yard

pub put-requires-clause-held : goal.put-requires-clause-held
put-requires-clause-held g c κs within =
    let q0 = c.args.self.now.pass in let p = c.args.part in let x = c.take-value.result in
    (x, held_then q0 c.take-value.new.pass (took q0.view p x) p x c.take-value.ensures.taken (only_took q0.view p x c.requires.acting.free.none).0)

pub put-requires-clause-stays : goal.put-requires-clause-stays
put-requires-clause-stays g c κs within =
    let q0 = c.args.self.now.pass in let p = c.args.part in let x = c.take-value.result in
    stays_with g.P.Part.fits g.P.Part.sound g.P.Part.count g.P.Part.steps c.take-value.new.pass.view p x c.make_room.new.part
    (held_then q0 c.take-value.new.pass (took q0.view p x) p x c.take-value.ensures.taken (only_took q0.view p x c.requires.acting.free.none).0) c.make_room.ensures.stays

pub returns-then-is_err-2-clause-acting : goal.returns-then-is_err-2-clause-acting
returns-then-is_err-2-clause-acting g c =
    let q0 = c.args.self.now.pass in let p = c.args.part in let x = c.take-value.result in let was = c.requires.acting in
    let is = two (λ v. took v p x) (λ v. put_back v p) q0 c.take-value.new.pass c.put.new.pass c.take-value.ensures.taken c.put.ensures in record {
      free = free_put c.args.yard.now q0 c.put.new.pass p x was.free is;
      suited = of_pass (λ v. g.S.Script.suits c.args.self.now.script v.openings v.limit) q0 c.put.new.pass (put_back (took q0.view p x) p) is was.suited;
      made = c.reserve.ensures.items ∙ was.made ∙ sym (ap (λ q. q.view.made) is);
      rises = of_pass (λ v. AreRising v.made) q0 c.put.new.pass (put_back (took q0.view p x) p) is was.rises;
    }

pub returns-then-is_err-2-clause-same : goal.returns-then-is_err-2-clause-same
returns-then-is_err-2-clause-same g c =
    let q0 = c.args.self.now.pass in let p = c.args.part in let x = c.take-value.result in
    let is = two (λ v. took v p x) (λ v. put_back v p) q0 c.take-value.new.pass c.put.new.pass c.take-value.ensures.taken c.put.ensures in
    same_pass q0 c.put.new.pass (put_back (took q0.view p x) p) is (record { openings = refl; first = refl; limit = refl; passes = refl; shares = refl })

pub returns-then-is_err-2-clause-not : goal.returns-then-is_err-2-clause-not
returns-then-is_err-2-clause-not g c = record { stays = record { made = c.reserve.ensures.items; script = refl }; stopped = tt }

pub put-requires-then-not-ticket-clause-held : goal.put-requires-then-not-ticket-clause-held
put-requires-then-not-ticket-clause-held g c κs within =
    let q0 = c.args.self.now.pass in let p = c.args.part in let x = c.take-value.result in let ended = c.ticket.ensures.ended c.if-not-ticket.true in
    let has = held_then q0 c.take-value.new.pass (took q0.view p x) p x c.take-value.ensures.taken (only_took q0.view p x c.requires.acting.free.none).0 in
    (x, ap (λ q. held_of q.view p) ended ∙ has)

pub put-requires-then-not-ticket-clause-stays : goal.put-requires-then-not-ticket-clause-stays
put-requires-then-not-ticket-clause-stays g c κs within =
    let q0 = c.args.self.now.pass in let p = c.args.part in let x = c.take-value.result in let ended = c.ticket.ensures.ended c.if-not-ticket.true in
    let has = held_then q0 c.take-value.new.pass (took q0.view p x) p x c.take-value.ensures.taken (only_took q0.view p x c.requires.acting.free.none).0 in
    stays_with g.P.Part.fits g.P.Part.sound g.P.Part.count g.P.Part.steps c.ticket.new.pass.view p x c.make_room.new.part (ap (λ q. held_of q.view p) ended ∙ has) c.make_room.ensures.stays

pub returns-then-not-ticket-clause-acting : goal.returns-then-not-ticket-clause-acting
returns-then-not-ticket-clause-acting g c =
    let q0 = c.args.self.now.pass in let p = c.args.part in let x = c.take-value.result in let was = c.requires.acting in let l = c.take-value.new.pass.view.limit in
    let ended = c.ticket.ensures.ended c.if-not-ticket.true in let q = c.put-then-not-ticket.new.pass in
    let is = two (λ v. looked (took v p x) l) (λ v. put_back v p) q0 c.ticket.new.pass q
    (two (λ v. took v p x) (λ v. looked v l) q0 c.take-value.new.pass c.ticket.new.pass c.take-value.ensures.taken ended) c.put-then-not-ticket.ensures in record {
      free = free_refused c.args.yard.now q0 q p l x was.free is;
      suited = of_pass (λ v. g.S.Script.suits c.args.self.now.script v.openings v.limit) q0 q (put_back (looked (took q0.view p x) l) p) is was.suited;
      made = c.reserve.ensures.items ∙ was.made ∙ sym (ap (λ q. q.view.made) is);
      rises = of_pass (λ v. AreRising v.made) q0 q (put_back (looked (took q0.view p x) l) p) is was.rises;
    }

pub returns-then-not-ticket-clause-same : goal.returns-then-not-ticket-clause-same
returns-then-not-ticket-clause-same g c =
    let q0 = c.args.self.now.pass in let p = c.args.part in let x = c.take-value.result in let l = c.take-value.new.pass.view.limit in
    let ended = c.ticket.ensures.ended c.if-not-ticket.true in let q = c.put-then-not-ticket.new.pass in
    let is = two (λ v. looked (took v p x) l) (λ v. put_back v p) q0 c.ticket.new.pass q
    (two (λ v. took v p x) (λ v. looked v l) q0 c.take-value.new.pass c.ticket.new.pass c.take-value.ensures.taken ended) c.put-then-not-ticket.ensures in
    same_pass q0 q (put_back (looked (took q0.view p x) l) p) is (record { openings = refl; first = refl; limit = refl; passes = refl; shares = refl })

pub act-entry-requires-clause-can : goal.act-entry-requires-clause-can
act-entry-requires-clause-can g c =
    let q0 = c.args.self.now.pass in let p = c.args.part in let x = c.take-value.result in let was = c.requires.acting in
    let given = c.ticket.ensures.given c.if-not-ticket.false in let q = c.ticket.new.pass in
    let is = two (λ v. took v p x) (λ v. ticketed v given.0) q0 c.take-value.new.pass q c.take-value.ensures.taken given.1 in
    let v = ticketed (took q0.view p x) given.0 in let opened = c.requires.opened in
    let near = c.requires.part.1 in let parts = was.free.parts in (
      p,
      c.requires.part.0,
      q.view.openings,
      q.view.limit,
      of_pass (λ u. g.S.Script.suits c.args.self.now.script u.openings u.limit) q0 q v is was.suited,
      is_part g.P.Part.fits g.P.Part.sound g.P.Part.count g.P.Part.steps q.view p x c.make_room.new.part (held_then q0 q v p x is (only_took q0.view p x was.free.none).0) opened.0
          (of_pass (λ u. OpensWith g.P.Part.fits g.P.Part.sound g.P.Part.count g.P.Part.steps u.openings u.first opened.0) q0 q v is opened.1) c.ticket.ensures.knows
          (of_pass (λ u. 0 < u.tickets) q0 q v is (omega arith)) (of_pass (λ u. p < Rattle.std.proofs.Common.length u.openings) q0 q v is (omega (arith, near, parts))) c.make_room.ensures.stays,
    )

pub draw-number-requires-clause-held : goal.draw-number-requires-clause-held
draw-number-requires-clause-held g c κs within =
    let q0 = c.args.self.now.pass in let p = c.args.part in let x = c.take-value.result in let given = c.ticket.ensures.given c.if-not-ticket.false in
    let has = held_then q0 c.take-value.new.pass (took q0.view p x) p x c.take-value.ensures.taken (only_took q0.view p x c.requires.acting.free.none).0 in
    (x, ap (λ q. held_of q.view p) given.1 ∙ has)

pub draw-number-requires-clause-commits : goal.draw-number-requires-clause-commits
draw-number-requires-clause-commits g c κs within =
    let q0 = c.args.self.now.pass in let p = c.args.part in let x = c.take-value.result in let was = c.requires.acting in
    let given = c.ticket.ensures.given c.if-not-ticket.false in let q = c.ticket.new.pass in
    let is = two (λ v. took v p x) (λ v. ticketed v given.0) q0 c.take-value.new.pass q c.take-value.ensures.taken given.1 in
    let v = ticketed (took q0.view p x) given.0 in
    commits_with g.P.Part.fits g.P.Part.sound g.P.Part.count g.P.Part.steps q.view p x c.make_room.new.part (held_then q0 q v p x is (only_took q0.view p x was.free.none).0)
    c.act-entry.new.part c.act-entry.result (of_pass (λ u. 0 < u.tickets) q0 q v is (omega arith)) c.make_room.ensures.stays
    (λ w0 w opening told at fit. c.act-entry.ensures.leads p q.view.openings q.view.first q.view.limit w0 w opening c.requires.part.0
    (of_pass (λ u. g.S.Script.suits c.args.self.now.script u.openings u.limit) q0 q v is was.suited) told at fit)

pub put-requires-2-clause-held : goal.put-requires-2-clause-held
put-requires-2-clause-held g c κs within =
    let p = c.args.part in let new = c.act-entry.new.part in let u = c.ticket.new.pass.view in
    (new, ap (λ q. held_of q.view p) c.draw-number.ensures.drawn ∙ Rattle.fc_yard.proofs.Totals.write_here Rattle.std.proofs.Common.None u.held p (Some new))

pub put-requires-2-clause-stays : goal.put-requires-2-clause-stays
put-requires-2-clause-stays g c κs within =
    let p = c.args.part in let new = c.act-entry.new.part in let u = c.ticket.new.pass.view in
    stays_same g.P.Part.fits g.P.Part.sound g.P.Part.count g.P.Part.steps c.draw-number.new.pass.view p new new
    (ap (λ q. held_of q.view p) c.draw-number.ensures.drawn ∙ Rattle.fc_yard.proofs.Totals.write_here Rattle.std.proofs.Common.None u.held p (Some new))

pub returns-clause-acting : goal.returns-clause-acting
returns-clause-acting g c =
    let q0 = c.args.self.now.pass in let p = c.args.part in let x = c.take-value.result in let was = c.requires.acting in
    let given = c.ticket.ensures.given c.if-not-ticket.false in let q = c.put-2.new.pass in
    let new = c.act-entry.new.part in let n = c.draw-number.result in let e = c.act-entry.result in
    let one = two (λ v. took v p x) (λ v. ticketed v given.0) q0 c.take-value.new.pass c.ticket.new.pass c.take-value.ensures.taken given.1 in
    let drawn = two (λ v. ticketed (took v p x) given.0) (λ v. drew v p new n e) q0 c.ticket.new.pass c.draw-number.new.pass one c.draw-number.ensures.drawn in
    let is = two (λ v. drew (ticketed (took v p x) given.0) p new n e) (λ v. put_back v p) q0 c.draw-number.new.pass q drawn c.put-2.ensures in
    let last = put_back (drew (ticketed (took q0.view p x) given.0) p new n e) p in
    let next = ap (λ r. r.view.made) one in record {
      free = free_drawn c.args.yard.now q0 q p given.0 n x new e was.free is;
      suited = c.act-entry.ensures.suits q.view.openings q.view.limit (of_pass (λ v. g.S.Script.suits c.args.self.now.script v.openings v.limit) q0 q last is was.suited);
      made = c.push_reserved.ensures.items ∙ ap (λ l. l ++ (n, e) ∷ []) (c.reserve.ensures.items ∙ was.made) ∙ sym (ap (λ r. r.view.made) is);
      rises = of_pass (λ v. AreRising v.made) q0 q last is (rising_more n e q0.view.made (subst (λ ms. Rattle.fc_yard.specs.Lists.AllBelow n ms) next c.draw-number.ensures.number.0) was.rises);
    }

pub returns-clause-same : goal.returns-clause-same
returns-clause-same g c =
    let q0 = c.args.self.now.pass in let p = c.args.part in let x = c.take-value.result in
    let given = c.ticket.ensures.given c.if-not-ticket.false in let q = c.put-2.new.pass in
    let new = c.act-entry.new.part in let n = c.draw-number.result in let e = c.act-entry.result in
    let one = two (λ v. took v p x) (λ v. ticketed v given.0) q0 c.take-value.new.pass c.ticket.new.pass c.take-value.ensures.taken given.1 in
    let drawn = two (λ v. ticketed (took v p x) given.0) (λ v. drew v p new n e) q0 c.ticket.new.pass c.draw-number.new.pass one c.draw-number.ensures.drawn in
    let is = two (λ v. drew (ticketed (took v p x) given.0) p new n e) (λ v. put_back v p) q0 c.draw-number.new.pass q drawn c.put-2.ensures in
    same_pass q0 q (put_back (drew (ticketed (took q0.view p x) given.0) p new n e) p) is (record { openings = refl; first = refl; limit = refl; passes = refl; shares = refl })

pub returns-clause-done : goal.returns-clause-done
returns-clause-done g c =
    let n = c.draw-number.result in let e = c.act-entry.result in
    record { number = n; entry = e; made = c.push_reserved.ensures.items ∙ ap (λ l. l ++ (n, e) ∷ []) c.reserve.ensures.items; went = c.act-entry.ensures.goes }

pub returns-clause-fewer : goal.returns-clause-fewer
returns-clause-fewer g c = c.act-entry.ensures.fewer
