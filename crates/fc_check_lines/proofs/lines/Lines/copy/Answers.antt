use Rattle.std.proofs.Common.{◌∙◌}
use Rattle.fc_check_lines.proofs.Answering.{copied}
use Rattle.fc_check_lines.specs.Bytes.{segments_in}
use Rattle.fc_check_lines.proofs.lines.Lines.copy.Goals as goal

pub invariant_of-result : goal.invariant_of-result
invariant_of-result c = c.in_ok-asking.ensures.over (segments_in c.self.inside.rest.now) c.self.invariant

pub returns : goal.returns
returns c =
    let i = c.self.inside in
    copied c.args.self.now i.names.items i.asking (segments_in i.rest.now) c.in_ok-names.names.items c.in_ok-asking.asking c.self.view_is
    (c.in_ok-names.ensures ∙ c.as_slice.ensures.value) (c.in_ok-asking.ensures.agenda (segments_in i.rest.now))
