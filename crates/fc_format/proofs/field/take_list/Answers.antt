use Rattle.std.proofs.lemmas.Result.{err_from_is_err_and}
use Rattle.fc_format.specs.Reading.{number, list}
use Rattle.fc_format.proofs.Steps.{goes, stops}
use Rattle.fc_format.proofs.field.take_list.Goals as goal

pub returns-in_err-count : goal.returns-in_err-count
unfolding list
returns-in_err-count g c =
    let p = err_from_is_err_and c.from_residual.result c.from_residual.ensures.1 in
    rw (p.1, p.2) (stops (number 4 c.args.cursor.now) _ _ _ _ c.in_err-count.ensures)

pub returns : goal.returns
unfolding list
returns g c = goes _ _ _ c.in_ok-count.ensures c.take_items.ensures
