use Rattle.fc_check_lines.proofs.Bytes.{begins_block, begins_single}
use Rattle.fc_check_lines.proofs.segment.next_segment.Goals as goal

pub returns-in-Single : goal.returns-in-Single
returns-in-Single c =
    begins_single c.args.bytes.now c.lines.rest.now c.first_line.result.1.now c.first_line.result.0.now c.in_ok-read.field-0 c.lines.reader c.read.new.self c.lines.invariant
    c.first_line.ensures.lines c.first_line.ensures.less c.in_ok-read.ensures.ok c.in-Single.line c.in-Single.is

pub returns-in-Block : goal.returns-in-Block
returns-in-Block c =
    begins_block c.args.bytes.now c.lines.rest.now c.first_line.result.1.now c.first_line.result.0.now c.in_ok-read.field-0 c.lines.reader c.read.new.self c.lines.invariant
    c.first_line.ensures.lines c.first_line.ensures.less c.in_ok-read.ensures.ok c.in-Block.block c.in-Block.is
