use Rattle.std.proofs.Common.{arith}
use Rattle.fc_check_rows.proofs.Marking.{keep_more, keep_done}
use Rattle.fc_check_rows.proofs.row.keep_marked.Goals as goal

pub loop-grain-preserved : goal.loop-grain-preserved
loop-grain-preserved c = keep_more c.args.marks.now c.args.others.now c.loop-grain.marks c.loop-grain.grain c.are_marked.result (omega arith) c.loop-grain.invariant c.are_marked.ensures

pub returns : goal.returns
returns c = keep_done c.args.marks.now c.args.others.now c.loop-grain.marks c.loop-grain.grain (omega arith) c.loop-grain.invariant
