use Rattle.std.proofs.Common.{arith}
use Rattle.fc_legal.specs.Whole.{lanes}
use Rattle.fc_actors.specs.declared.script.Item.TheVariants.{Access}
use Rattle.fc_actors.proofs.Lines.{first_place, first_suits, last_asked, more_asked, more_suit, rest_suit}
use Rattle.fc_actors.proofs.script.next_grain.Goals as goal

pub returns-then-span-clause-asked : goal.returns-then-span-clause-asked
returns-then-span-clause-asked g c =
    let span = c.take_span-span.result in let rest = c.take_span-span.new.items.items in
    let left = (first_suits c.requires.can.0 c.args.items.now.items rest (Access span) c.take_span-span.ensures.taken c.requires.can.6).left in
    more_asked c.args.grain c.args.items.now.items rest c.push_front_reserved.new.self.items span c.access_next-entry.result.request c.take_span-span.ensures.taken c.push_front_reserved.ensures.items left
    c.access_next-entry.ensures.asked.request_is

pub returns-then-span-clause-suits : goal.returns-then-span-clause-suits
returns-then-span-clause-suits g c = λ s all.
    more_suit s c.args.items.now.items c.take_span-span.new.items.items c.push_front_reserved.new.self.items c.take_span-span.result c.take_span-span.ensures.taken c.push_front_reserved.ensures.items c.if-span.true all

pub returns-else-span-clause-asked : goal.returns-else-span-clause-asked
returns-else-span-clause-asked g c =
    let span = c.take_span-span.result in let rest = c.take_span-span.new.items.items in let over = c.if-span.false in
    let left = (first_suits c.requires.can.0 c.args.items.now.items rest (Access span) c.take_span-span.ensures.taken c.requires.can.6).left in
    last_asked c.args.grain c.args.items.now.items rest span c.access_next-entry.result.request c.take_span-span.ensures.taken left (omega (arith, over)) c.access_next-entry.ensures.asked.request_is

pub returns-else-span-clause-suits : goal.returns-else-span-clause-suits
returns-else-span-clause-suits g c = λ s all.
    rest_suit s c.args.items.now.items c.take_span-span.new.items.items (Access c.take_span-span.result) c.take_span-span.ensures.taken all

pub access_next-entry-requires-clause-can : goal.access_next-entry-requires-clause-can
access_next-entry-requires-clause-can g c =
    let can = c.requires.can in let items = c.args.items.now.items in let rest = c.take_span-span.new.items.items in let span = c.take_span-span.result in let was = c.take_span-span.ensures.taken in (
      can.0,
      can.1,
      can.2,
      can.3,
      can.4,
      can.5,
      first_suits can.0 items rest (Access span) was can.6,
      can.7,
      first_place (lanes can.0.whole) can.2 items rest span was can.8,
    )

pub overflow_add-span : goal.overflow_add-span
overflow_add-span g c =
    let can = c.requires.can in let span = c.take_span-span.result in let left = (first_suits can.0 c.args.items.now.items c.take_span-span.new.items.items (Access span) c.take_span-span.ensures.taken can.6).left in
    omega (arith, left)

pub returns-then-span-clause-leads : goal.returns-then-span-clause-leads
returns-then-span-clause-leads g c = λ first s i opening sound has all same needs.
    let items = c.args.items.now.items in let rest = c.take_span-span.new.items.items in let span = c.take_span-span.result in let was = c.take_span-span.ensures.taken in
    c.access_next-entry.ensures.leads first s i opening sound has (first_suits first items rest (Access span) was all) same (first_place (lanes first.whole) i items rest span was needs)

pub returns-else-span-clause-leads : goal.returns-else-span-clause-leads
returns-else-span-clause-leads g c = λ first s i opening sound has all same needs.
    let items = c.args.items.now.items in let rest = c.take_span-span.new.items.items in let span = c.take_span-span.result in let was = c.take_span-span.ensures.taken in
    c.access_next-entry.ensures.leads first s i opening sound has (first_suits first items rest (Access span) was all) same (first_place (lanes first.whole) i items rest span was needs)
