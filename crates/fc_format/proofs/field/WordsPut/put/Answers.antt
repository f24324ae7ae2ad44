use Rattle.std.proofs.Common.{rules}
use Rattle.fc_format.specs.Bytes.{words_bytes}
use Rattle.fc_format.proofs.field.WordsPut.put.Goals as goal

pub returns-clause-bytes : goal.returns-clause-bytes
unfolding words_bytes
returns-clause-bytes c = search rules
