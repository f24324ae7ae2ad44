use Rattle.fc_image.proofs.Bits.{bit_read, bit_past}
use Rattle.fc_image.proofs.words.Words.has.Goals as goal

pub returns-then-place-words : goal.returns-then-place-words
returns-then-place-words c = bit_read c.args.self.now c.as_slice-words.result.now c.args.grain c.as_slice-words.ensures

pub returns-else-place-words : goal.returns-else-place-words
returns-else-place-words c = bit_past c.args.self.now c.as_slice-words.result.now c.args.grain c.as_slice-words.ensures c.if-place-words.false
