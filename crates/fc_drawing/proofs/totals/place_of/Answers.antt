use Rattle.std.proofs.Common.{◌≡◌, arith, length, None, ◌∙◌}
use Rattle.fc_drawing.specs.Totals.{none_of, place_of}
use Rattle.fc_drawing.proofs.Counting.{place_here, place_more, place_past}
use Rattle.fc_drawing.proofs.totals.place_of.Goals as goal

pub loop-place-preserved : goal.loop-place-preserved
loop-place-preserved c =
    place_more c.args.from c.args.to c.args.pairs.now c.loop-place.place _ (none_of None (record { 0 = 0 })) c.is_of.result (omega arith) c.is_of.ensures c.if-is_of.false c.loop-place.invariant

pub returns-then-is_of : goal.returns-then-is_of
returns-then-is_of c =
    place_here c.args.from c.args.to c.args.pairs.now c.loop-place.place _ (none_of None (record { 0 = 0 })) c.is_of.result (omega arith) c.is_of.ensures c.if-is_of.true c.loop-place.invariant

pub returns : goal.returns
returns c =
    let last : c.loop-place.place ≡ place_of c.args.from c.args.to c.args.pairs.now =
    place_past c.args.from c.args.to c.args.pairs.now c.loop-place.place _ (omega arith) c.loop-place.invariant in
    let all : length c.args.pairs.now ≡ c.loop-place.place = omega arith in
    all ∙ last
