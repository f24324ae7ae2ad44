use Rattle.std.proofs.Common.{◌≡◌, ◌==◌, Some, None, position}
use Rattle.fc_check_lines.proofs.Bytes.{first_unended, line_ended}
use Rattle.fc_check_lines.proofs.segment.first_line.Goals as goal

pub returns-in-Some-clause-lines : goal.returns-in-Some-clause-lines
returns-in-Some-clause-lines c =
    let at : position (λ byte. byte == 10) c.args.bytes.now ≡ Some c.in-Some.end = cc in
    line_ended c.args.bytes.now c.without_return.result.now c.in-Some.end at c.without_return.ensures

pub returns-in-None-clause-lines : goal.returns-in-None-clause-lines
returns-in-None-clause-lines c =
    let none : position (λ byte. byte == 10) c.args.bytes.now ≡ None = cc in
    first_unended c.args.bytes.now none c.requires
