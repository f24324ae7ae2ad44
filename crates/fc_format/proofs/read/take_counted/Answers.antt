use Rattle.std.proofs.Common.{◌∙◌, ap}
use Rattle.std.proofs.lemmas.Result.{err_from_is_err_and}
use Rattle.fc_format.specs.Reading.{counted, whole}
use Rattle.fc_format.proofs.Steps.{bad_there, fails_as}
use Rattle.fc_format.proofs.Parts.{counted_none, counted_some, whole_left, whole_done}
use Rattle.fc_format.proofs.read.take_counted.Goals as goal

pub returns-in-None : goal.returns-in-None
returns-in-None g c = counted_none g.T.Field.reading c.args.cursor.now c.take_part.new.cursor c.take_part.new.cursor c.damaged.result c.in-None.ensures.front c.in-None.ensures.behind c.damaged.ensures

pub returns-in_err-value : goal.returns-in_err-value
returns-in_err-value g c =
    let p = err_from_is_err_and c.from_residual.result c.from_residual.ensures.1 in
    let same = counted_some g.T.Field.reading c.args.cursor.now c.take_part.new.cursor c.in-Some.part c.in-Some.ensures.front c.in-Some.ensures.behind in
    rw (p.1, p.2) (fails_as (counted g.T.Field.reading c.args.cursor.now) (g.T.Field.reading c.in-Some.part) _ _ _ (λ at h. same ∙ ap (λ z. whole z c.take_part.new.cursor) h) c.in_err-value.ensures)

pub returns-in-Some-first : goal.returns-in-Some-first
returns-in-Some-first g c =
    let same = counted_some g.T.Field.reading c.args.cursor.now c.take_part.new.cursor c.in-Some.part c.in-Some.ensures.front c.in-Some.ensures.behind in
    bad_there (counted g.T.Field.reading c.args.cursor.now) c.read.new.cursor c.take_part.new.cursor c.damaged-in-Some-first.result c.damaged-in-Some-first.ensures
    (same ∙ whole_left (g.T.Field.reading c.in-Some.part) c.in_ok-value.value c.read.new.cursor c.take_part.new.cursor c.in-Some-first.field-0 c.in_ok-value.ensures c.in-Some-first.ensures.value)

pub returns-in-None-first : goal.returns-in-None-first
returns-in-None-first g c =
    let same = counted_some g.T.Field.reading c.args.cursor.now c.take_part.new.cursor c.in-Some.part c.in-Some.ensures.front c.in-Some.ensures.behind in
    same ∙ whole_done (g.T.Field.reading c.in-Some.part) c.in_ok-value.value c.read.new.cursor c.take_part.new.cursor c.in_ok-value.ensures c.in-None-first.ensures.value
