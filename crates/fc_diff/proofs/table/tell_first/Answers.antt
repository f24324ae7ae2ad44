use Rattle.std.proofs.Common.{List, ◌++◌, drop, ap}
use Rattle.fc_changed.specs.Row.{Row}
use Rattle.fc_diff.proofs.Found.{first_ids}
use Rattle.fc_diff.proofs.table.tell_first.Goals as goal

pub tell_named-requires-clause-beside : goal.tell_named-requires-clause-beside
tell_named-requires-clause-beside c = first_ids c.args.ids.now.keys c.args.rows.now c.args.first c.requires.beside

pub returns : goal.returns
returns c = ap (λ (rs : List Row). rs ++ drop c.args.first c.args.rows.now) c.tell_named.ensures
