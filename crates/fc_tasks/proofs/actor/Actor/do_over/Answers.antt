use Rattle.std.proofs.Common.{◌≡◌, ℕ, ◌+◌, ◌-◌, ◌<◌, ◌++◌, ◌∷◌, [], List, length, ap, sym, ◌∙◌, refl, subst, arith}
use Rattle.fc_yard.specs.Lists.{AllBelow}
use Rattle.fc_yard.specs.Views.{held_of}
use Rattle.fc_yard.specs.Whole.{OpensWith}
use Rattle.fc_tasks.specs.Acting.{AreRising}
use Rattle.fc_tasks.proofs.Passing.{rising_more}
use Rattle.fc_tasks.proofs.AllParts.{just_drew, holds_all, are_parts, commits_all}
use Rattle.fc_tasks.proofs.actor.Actor.do_over.Goals as goal

pub returns-then-is_err-clause-acting : goal.returns-then-is_err-clause-acting
returns-then-is_err-clause-acting g c = let was = c.requires.acting in record { free = was.free; suited = was.suited; made = c.reserve.ensures.items ∙ was.made; rises = was.rises }

pub returns-then-is_err-clause-same : goal.returns-then-is_err-clause-same
returns-then-is_err-clause-same g c = record { openings = refl; first = refl; limit = refl; passes = refl; shares = refl }

pub returns-then-is_err-clause-not : goal.returns-then-is_err-clause-not
returns-then-is_err-clause-not g c = record { stays = record { made = c.reserve.ensures.items; script = refl }; stopped = tt }

pub returns-then-not-ticket-clause-acting : goal.returns-then-not-ticket-clause-acting
returns-then-not-ticket-clause-acting g c =
    let was = c.requires.acting in let q = c.put_all.new.pass in let ended = c.ticket.ensures.ended c.if-not-ticket.true in let books = c.take_all.ensures.books in let back = c.put_all.ensures.books in
    let openings = ap (λ a. a.openings) back ∙ ap (λ r. r.view.openings) ended ∙ ap (λ a. a.openings) books in
    let limit = ap (λ a. a.limit) back ∙ ap (λ r. r.view.limit) ended ∙ ap (λ a. a.limit) books in
    let made = ap (λ a. a.made) back ∙ ap (λ r. r.view.made) ended ∙ ap (λ a. a.made) books in
    let tickets = ap (λ a. a.tickets) back ∙ ap (λ r. r.view.tickets) ended ∙ ap (λ a. a.tickets) books in record {
      free = record { yard = c.put_all.ensures.yard; parts = ap (λ l. length l) openings ∙ was.free.parts; none = c.put_all.ensures.free; used = tickets ∙ was.free.used };
      suited = subst (λ (z : List g.row.P.Denot × ℕ). g.S.Script.suits c.args.self.now.script z.0 z.1) (λ i. (sym openings i, sym limit i)) was.suited;
      made = c.reserve.ensures.items ∙ was.made ∙ sym made;
      rises = subst (λ ms. AreRising ms) (sym made) was.rises;
    }

pub returns-then-not-ticket-clause-same : goal.returns-then-not-ticket-clause-same
returns-then-not-ticket-clause-same g c =
    let ended = c.ticket.ensures.ended c.if-not-ticket.true in let books = c.take_all.ensures.books in let back = c.put_all.ensures.books in record {
      openings = ap (λ a. a.openings) back ∙ ap (λ r. r.view.openings) ended ∙ ap (λ a. a.openings) books;
      first = ap (λ a. a.first) back ∙ ap (λ r. r.view.first) ended ∙ ap (λ a. a.first) books;
      limit = ap (λ a. a.limit) back ∙ ap (λ r. r.view.limit) ended ∙ ap (λ a. a.limit) books;
      passes = ap (λ a. a.passes) back ∙ ap (λ r. r.view.passes) ended ∙ ap (λ a. a.passes) books;
      shares = ap (λ a. a.shares) back ∙ ap (λ r. r.view.shares) ended ∙ ap (λ a. a.shares) books;
    }

pub act_over-entry-requires : goal.act_over-entry-requires
act_over-entry-requires g c =
    let was = c.requires.acting in let q = c.ticket.new.pass in let given = c.ticket.ensures.given c.if-not-ticket.false in let books = c.take_all.ensures.books in
    let openings = ap (λ r. r.view.openings) given.1 ∙ ap (λ a. a.openings) books in let first = ap (λ r. r.view.first) given.1 ∙ ap (λ a. a.first) books in
    let limit = ap (λ r. r.view.limit) given.1 ∙ ap (λ a. a.limit) books in let tickets = ap (λ r. r.view.tickets) given.1 in
    let opened = c.requires.opened in record {
      can = (
        c.requires.all.0,
        q.view.openings,
        q.view.limit,
        subst (λ (z : List g.row.P.Denot × ℕ). g.S.Script.suits c.args.self.now.script z.0 z.1) (λ i. (sym openings i, sym limit i)) was.suited,
        are_parts g.P.Part.fits g.P.Part.sound g.P.Part.count g.P.Part.steps q.view c.take_all.new.parts.items
            (λ p. ap (λ r. held_of r.view p) given.1 ∙ c.take_all.ensures.held p) (c.take_all.ensures.all ∙ sym was.free.parts ∙ ap (λ l. length l) (sym openings)) opened.0
            (subst (λ (z : List g.row.P.Denot × ℕ). OpensWith g.P.Part.fits g.P.Part.sound g.P.Part.count g.P.Part.steps z.0 z.1 opened.0) (λ i. (sym openings i, sym first i)) opened.1)
            c.ticket.ensures.knows (omega (arith, tickets)),
      );
    }

pub draw_all-number-requires-clause-held : goal.draw_all-number-requires-clause-held
draw_all-number-requires-clause-held g c κs within =
    let q = c.ticket.new.pass in let given = c.ticket.ensures.given c.if-not-ticket.false in
    holds_all q.view c.take_all.new.parts.items c.args.yard.now.parts (sym c.take_all.ensures.all) (λ p. ap (λ r. held_of r.view p) given.1 ∙ c.take_all.ensures.held p)

pub draw_all-number-requires-clause-commits : goal.draw_all-number-requires-clause-commits
draw_all-number-requires-clause-commits g c κs within =
    let was = c.requires.acting in let q = c.ticket.new.pass in let given = c.ticket.ensures.given c.if-not-ticket.false in let books = c.take_all.ensures.books in
    let openings = ap (λ r. r.view.openings) given.1 ∙ ap (λ a. a.openings) books in
    let limit = ap (λ r. r.view.limit) given.1 ∙ ap (λ a. a.limit) books in let tickets = ap (λ r. r.view.tickets) given.1 in
    let long = c.take_all.ensures.all ∙ sym was.free.parts ∙ ap (λ l. length l) (sym openings) in
    commits_all g.P.Part.fits g.P.Part.sound g.P.Part.count g.P.Part.steps q.view c.take_all.new.parts.items (λ p. ap (λ r. held_of r.view p) given.1 ∙ c.take_all.ensures.held p) long
    c.act_over-entry.new.parts.items c.act_over-entry.result c.args.yard.now.parts (sym c.take_all.ensures.all) (omega (arith, tickets))
    (λ w0 w told fit. c.act_over-entry.ensures.leads q.view.openings q.view.first q.view.limit w0 w c.requires.all.0
    (subst (λ (z : List g.row.P.Denot × ℕ). g.S.Script.suits c.args.self.now.script z.0 z.1) (λ i. (sym openings i, sym limit i)) was.suited) told long fit)

pub put_all-requires-2-clause-held : goal.put_all-requires-2-clause-held
put_all-requires-2-clause-held g c κs within =
    λ p. ap (λ r. held_of r.view p) c.draw_all-number.ensures.drawn ∙ just_drew c.ticket.new.pass.view c.act_over-entry.new.parts.items c.draw_all-number.result c.act_over-entry.result p

pub returns-clause-acting : goal.returns-clause-acting
returns-clause-acting g c =
    let was = c.requires.acting in let q = c.put_all-2.new.pass in let given = c.ticket.ensures.given c.if-not-ticket.false in let books = c.take_all.ensures.books in
    let drawn = c.draw_all-number.ensures.drawn in let back = c.put_all-2.ensures.books in let n = c.draw_all-number.result in let e = c.act_over-entry.result in
    let openings = ap (λ a. a.openings) back ∙ ap (λ r. r.view.openings) drawn ∙ ap (λ r. r.view.openings) given.1 ∙ ap (λ a. a.openings) books in
    let limit = ap (λ a. a.limit) back ∙ ap (λ r. r.view.limit) drawn ∙ ap (λ r. r.view.limit) given.1 ∙ ap (λ a. a.limit) books in
    let made = ap (λ r. r.view.made) given.1 ∙ ap (λ a. a.made) books in
    let all = ap (λ a. a.made) back ∙ ap (λ r. r.view.made) drawn ∙ ap (λ l. l ++ (n, e) ∷ []) made in
    let one = ap (λ a. a.tickets) back in let two = ap (λ r. r.view.tickets) drawn in let three = ap (λ r. r.view.tickets) given.1 in let four = ap (λ a. a.tickets) books in let used = was.free.used in record {
      free = record {
        yard = c.put_all-2.ensures.yard;
        parts = ap (λ l. length l) openings ∙ was.free.parts;
        none = c.put_all-2.ensures.free;
        used = omega (arith, one, two, three, four, used);
      };
      suited = c.act_over-entry.ensures.suits q.view.openings q.view.limit
          (subst (λ (z : List g.row.P.Denot × ℕ). g.S.Script.suits c.args.self.now.script z.0 z.1) (λ i. (sym openings i, sym limit i)) was.suited);
      made = c.push_reserved.ensures.items ∙ ap (λ l. l ++ (n, e) ∷ []) (c.reserve.ensures.items ∙ was.made) ∙ sym all;
      rises = subst (λ ms. AreRising ms) (sym all) (rising_more n e c.args.self.now.pass.view.made (subst (λ ms. AllBelow n ms) made c.draw_all-number.ensures.number.0) was.rises);
    }

pub returns-clause-same : goal.returns-clause-same
returns-clause-same g c =
    let given = c.ticket.ensures.given c.if-not-ticket.false in let books = c.take_all.ensures.books in let drawn = c.draw_all-number.ensures.drawn in let back = c.put_all-2.ensures.books in record {
      openings = ap (λ a. a.openings) back ∙ ap (λ r. r.view.openings) drawn ∙ ap (λ r. r.view.openings) given.1 ∙ ap (λ a. a.openings) books;
      first = ap (λ a. a.first) back ∙ ap (λ r. r.view.first) drawn ∙ ap (λ r. r.view.first) given.1 ∙ ap (λ a. a.first) books;
      limit = ap (λ a. a.limit) back ∙ ap (λ r. r.view.limit) drawn ∙ ap (λ r. r.view.limit) given.1 ∙ ap (λ a. a.limit) books;
      passes = ap (λ a. a.passes) back ∙ ap (λ r. r.view.passes) drawn ∙ ap (λ r. r.view.passes) given.1 ∙ ap (λ a. a.passes) books;
      shares = ap (λ a. a.shares) back ∙ ap (λ r. r.view.shares) drawn ∙ ap (λ r. r.view.shares) given.1 ∙ ap (λ a. a.shares) books;
    }

pub returns-clause-done : goal.returns-clause-done
returns-clause-done g c =
    let n = c.draw_all-number.result in let e = c.act_over-entry.result in
    record { number = n; entry = e; made = c.push_reserved.ensures.items ∙ ap (λ l. l ++ (n, e) ∷ []) c.reserve.ensures.items; went = c.act_over-entry.ensures.goes }

pub returns-clause-fewer : goal.returns-clause-fewer
returns-clause-fewer g c = c.act_over-entry.ensures.fewer
