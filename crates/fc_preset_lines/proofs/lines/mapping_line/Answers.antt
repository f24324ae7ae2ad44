-- The line is that with the options of the preset.
use Rattle.std.proofs.Common.{sym}
use Rattle.fc_preset_lines.proofs.lines.mapping_line.Goals as goal

pub returns : goal.returns
returns c = sym (c.options_of-options.ensures c.args.source c.args.name c.args.volume)
