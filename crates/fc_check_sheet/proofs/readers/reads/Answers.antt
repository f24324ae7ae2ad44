use Rattle.std.proofs.Common.{arith}
use Rattle.model_slots.proofs.Needs.{false_is}
use Rattle.fc_check_sheet.proofs.Needing.{never_reads}
use Rattle.fc_check_sheet.proofs.readers.reads.Goals as goal

pub returns : goal.returns
returns c = false_is (never_reads c.args.sheet.now.slots c.args.from c.args.place c.loop-grain.grain (omega arith) c.loop-grain.invariant)
