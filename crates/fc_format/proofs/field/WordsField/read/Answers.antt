use Rattle.std.proofs.Common.{rules}
use Rattle.fc_format.specs.Fields.{words}
use Rattle.fc_format.proofs.field.WordsField.read.Goals as goal

pub returns-in-Ok : goal.returns-in-Ok
unfolding words
returns-in-Ok c = search rules

pub returns-in-Err : goal.returns-in-Err
unfolding words
returns-in-Err c = search rules
