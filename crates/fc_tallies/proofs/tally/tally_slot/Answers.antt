use Rattle.std.proofs.Common.{arith, sym, ◌∙◌}
use Rattle.fc_tallies.proofs.Tallying.{holds_words, needed_few, same_tally, old_leaves, live_leaves, live_read}
use Rattle.fc_tallies.proofs.tally.tally_slot.Goals as goal

pub take_held-requires-clause-room : goal.take_held-requires-clause-room
take_held-requires-clause-room c =
    let h = holds_words c.args.slots.now c.args.place c.index-slots-place.result c.held.result.now c.words-held.result.now c.requires.there c.index-slots-place.is c.held.ensures c.words-held.ensures.len c.words-held.ensures.bits c.words-held.ensures.numbered in
    omega (arith, h.len, c.requires.words c.args.place c.requires.there)

pub take_held-requires-clause-few : goal.take_held-requires-clause-few
take_held-requires-clause-few c =
    let h = holds_words c.args.slots.now c.args.place c.index-slots-place.result c.held.result.now c.words-held.result.now c.requires.there c.index-slots-place.is c.held.ensures c.words-held.ensures.len c.words-held.ensures.bits c.words-held.ensures.numbered in
    needed_few c.args.slots.now c.args.place c.look_behind.new.waiting c.words-held.result.now h c.look_behind.ensures

pub returns-then-not-is_live-clause-tally : goal.returns-then-not-is_live-clause-tally
returns-then-not-is_live-clause-tally c =
    let h = holds_words c.args.slots.now c.args.place c.index-slots-place.result c.held.result.now c.words-held.result.now c.requires.there c.index-slots-place.is c.held.ensures c.words-held.ensures.len c.words-held.ensures.bits c.words-held.ensures.numbered in
    same_tally c.args.slots.now c.args.place c.index-slots-place.result c.held_count.result c.take_held.result c.look_behind.new.waiting c.words-held.result.now c.requires.there c.index-slots-place.is c.held_count.ensures c.take_held.ensures.count h c.look_behind.ensures

pub returns-then-not-is_live-clause-awaited : goal.returns-then-not-is_live-clause-awaited
returns-then-not-is_live-clause-awaited c =
    let h = holds_words c.args.slots.now c.args.place c.index-slots-place.result c.held.result.now c.words-held.result.now c.requires.there c.index-slots-place.is c.held.ensures c.words-held.ensures.len c.words-held.ensures.bits c.words-held.ensures.numbered in
    old_leaves c.args.slots.now c.args.place c.look_behind.new.waiting c.words-held.result.now c.take_held.new.waiting h c.look_behind.ensures (live_read c.args.slots.now c.args.place c.index-slots-place.result c.is_live.result c.requires.there c.index-slots-place.is ∙ (sym c.is_live.ensures ∙ c.if-not-is_live.true)) c.take_held.ensures.left

pub wait_for_others-requires : goal.wait_for_others-requires
wait_for_others-requires c =
    let h = holds_words c.args.slots.now c.args.place c.index-slots-place.result c.held.result.now c.words-held.result.now c.requires.there c.index-slots-place.is c.held.ensures c.words-held.ensures.len c.words-held.ensures.bits c.words-held.ensures.numbered in
    omega (arith, h.len, c.requires.words c.args.place c.requires.there)

pub returns-clause-tally : goal.returns-clause-tally
returns-clause-tally c =
    let h = holds_words c.args.slots.now c.args.place c.index-slots-place.result c.held.result.now c.words-held.result.now c.requires.there c.index-slots-place.is c.held.ensures c.words-held.ensures.len c.words-held.ensures.bits c.words-held.ensures.numbered in
    same_tally c.args.slots.now c.args.place c.index-slots-place.result c.held_count.result c.take_held.result c.look_behind.new.waiting c.words-held.result.now c.requires.there c.index-slots-place.is c.held_count.ensures c.take_held.ensures.count h c.look_behind.ensures

pub returns-clause-awaited : goal.returns-clause-awaited
returns-clause-awaited c =
    let h = holds_words c.args.slots.now c.args.place c.index-slots-place.result c.held.result.now c.words-held.result.now c.requires.there c.index-slots-place.is c.held.ensures c.words-held.ensures.len c.words-held.ensures.bits c.words-held.ensures.numbered in
    live_leaves c.args.slots.now c.args.place c.words-held.result.now c.wait_for_others.new.waiting h (live_read c.args.slots.now c.args.place c.index-slots-place.result c.is_live.result c.requires.there c.index-slots-place.is ∙ (sym c.is_live.ensures ∙ c.if-not-is_live.false)) c.wait_for_others.ensures
