use Rattle.std.proofs.Common.{length, arith}
use Rattle.model_slots.proofs.Marks.{length_of_length, marks_done, set_mark}
use Rattle.model_slots.proofs.slot.set_marks.Goals as goal

pub loop-place-preserved : goal.loop-place-preserved
loop-place-preserved c = set_mark c.args.set.now c.args.marks.now c.loop-place.marks c.loop-place.place c.has_mark.result (omega arith) c.loop-place.invariant c.has_mark.ensures

pub returns : goal.returns
returns c = marks_done _ c.args.marks.now c.loop-place.marks c.loop-place.place (omega arith) (length_of_length (length c.args.marks.now) c.args.set.now) c.loop-place.invariant
