use Rattle.fc_entry.proofs.CommandLines.{mapping_flags_line}
use Rattle.fc_entry.proofs.PartLemmas.{Written-as}
use Rattle.fc_entry.proofs.command_text.put_mapping_flags.Goals as goal

pub returns : goal.returns
returns g c =
    Written-as
    (
    mapping_flags_line c.args.grain_size c.args.incremental c.args.autodelete _ _ _ c.grain_size_option.ensures
    c.text_if.ensures c.text_if-2.ensures
    )
    c.put_all.ensures
