use Rattle.fc_check_lines.proofs.Answering.{tells_more, tells_over}
use Rattle.fc_check_lines.specs.Bytes.{segments_in}
use Rattle.fc_check_lines.proofs.lines.Lines.is_over.Goals as goal

pub returns-in-Nothing : goal.returns-in-Nothing
returns-in-Nothing c =
    let i = c.self.inside in
    tells_over c.args.self.now i.names.items i.asking (segments_in i.rest.now) c.self.view_is c.self.invariant c.in-Nothing.is

pub returns-in_default : goal.returns-in_default
returns-in_default c =
    let i = c.self.inside in
    tells_more c.args.self.now i.names.items i.asking (segments_in i.rest.now) c.self.view_is c.in_default.not-Nothing
