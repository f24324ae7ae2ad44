use Rattle.std.proofs.Common.{sym, arith}
use Rattle.fc_bits.proofs.Bridge.{grains_of_is}
use Rattle.fc_recovery_text.proofs.sheet.marks_of.Goals as goal

pub returns : goal.returns
returns c =
    sym (grains_of_is c.args.grains c.args.words.now c.loop-grain.marks.items c.loop-grain.invariant.0 (λ g lt. c.loop-grain.invariant.1 g (omega (arith, c.loop-grain-test.false))))
