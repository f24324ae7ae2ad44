use Rattle.std.proofs.lemmas.Bool.{both_ways}
use Rattle.fc_tallies.proofs.Tallying.{holds_words, behind_on, behind_end}
use Rattle.fc_tallies.proofs.tally.look_behind.Goals as goal

pub returns-then-goes_on : goal.returns-then-goes_on
returns-then-goes_on c = behind_on c.args.slots.now c.args.place c.args.waiting.now c.requires.there c.requires.sizes (c.goes_on.ensures.0 c.if-goes_on.true) c.requires.awaited

pub returns : goal.returns
returns c =
    let h = holds_words c.args.slots.now c.args.place c.index-slots-place.result c.held.result.now c.words.result.now c.requires.there c.index-slots-place.is c.held.ensures c.words.ensures.len c.words.ensures.bits c.words.ensures.numbered in
    behind_end c.args.slots.now c.args.place c.clear_waiting.new.waiting c.words.result.now h c.requires.together (λ go. both_ways c.goes_on.result c.if-goes_on.false (c.goes_on.ensures.1 go)) c.clear_waiting.ensures
