use Rattle.model_slots.proofs.Needs.{false_is, never_reads}
use Rattle.model_slots.proofs.need.reads_listed.Goals as goal

pub returns : goal.returns
returns c = false_is (never_reads c.args.slots.now c.args.on c.args.place c.loop-grain.grain c.widest-grain-end.result c.args.listed.now c.widest-grain-end.ensures.most c.loop-grain-test.false c.loop-grain.invariant)
