use Rattle.std.proofs.Common.{rules, append_assoc}
use Rattle.std.proofs.lemmas.Result.{IfOk-equal}
use Rattle.fc_format.specs.Bytes.{name_bytes}
use Rattle.fc_format.proofs.field.NamePut.put.Goals as goal

pub returns-clause-bytes : goal.returns-clause-bytes
unfolding name_bytes
returns-clause-bytes c = search (rules, IfOk-equal, append_assoc)
