use Rattle.std.proofs.Common.{Some, None, sym, ap, ◌∙◌}
use Rattle.std.specs.Prelude.{option_map}
use Rattle.std.proofs.lemmas.Result.{err_from_is_err_and}
use Rattle.fc_format.specs.Reading.{number}
use Rattle.fc_format.specs.Fields.{optional}
use Rattle.fc_format.proofs.Steps.{stops, optional_is, id_absent, id_there}
use Rattle.fc_format.proofs.ids.OptionField.read.Goals as goal

pub returns-in_err-number : goal.returns-in_err-number
unfolding optional
returns-in_err-number g c =
    let p = err_from_is_err_and c.from_residual.result c.from_residual.ensures.1 in
    rw (p.1, p.2) (stops (number 4 c.args.cursor.now) _ _ _ _ c.in_err-number.ensures)

pub returns-then-number : goal.returns-then-number
returns-then-number g c =
    optional_is (λ n. option_map g.I.Id.named n) c.args.cursor.now c.read.new.cursor c.in_ok-number.number None c.in_ok-number.ensures
    (sym (ap (option_map g.I.Id.named) (id_absent c.in_ok-number.number c.if-number.true)))

pub returns : goal.returns
returns g c =
    optional_is (λ n. option_map g.I.Id.named n) c.args.cursor.now c.read.new.cursor c.in_ok-number.number _ c.in_ok-number.ensures
    (ap (λ z. Some z) c.with_number.ensures ∙ sym (ap (option_map g.I.Id.named) (id_there c.in_ok-number.number c.if-number.false)))
