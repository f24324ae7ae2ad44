use Rattle.fc_format.proofs.Steps.{choice_none, choice_right, choice_wrong, bad_there}
use Rattle.fc_format.proofs.codes.AnyField.read.Goals as goal

pub returns-in-Some-with_code : goal.returns-in-Some-with_code
returns-in-Some-with_code g c =
    choice_right g.C.Code.meaning c.args.cursor.now c.in-Some.code c.in-Some-with_code.value c.skip.new.self c.in-Some.ensures.value c.in-Some-with_code.ensures c.skip.ensures

pub returns-in-None-with_code : goal.returns-in-None-with_code
returns-in-None-with_code g c =
    bad_there _ c.args.cursor.now _ _ c.damaged.ensures (choice_wrong g.C.Code.meaning c.args.cursor.now c.in-Some.code c.in-Some.ensures.value c.in-None-with_code.ensures)

pub returns-in-None : goal.returns-in-None
returns-in-None g c = bad_there _ c.args.cursor.now _ _ c.damaged-in-None.ensures (choice_none g.C.Code.meaning c.args.cursor.now c.in-None.ensures.value)
