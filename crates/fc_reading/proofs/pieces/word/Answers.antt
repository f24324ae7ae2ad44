use Rattle.std.proofs.Common.{◌∙◌, arith}
use Rattle.fc_reading.proofs.PieceLemmas.{word-short}
use Rattle.fc_reading.proofs.pieces.word.Goals as goal

pub returns-then-place-bytes : goal.returns-then-place-bytes
returns-then-place-bytes c =
    c.loop-place.invariant.1
    ∙ word-short c.args.word.now c.args.bytes.now c.loop-place.place c.loop-place-test.true (omega (arith, c.if-place-bytes.true))
