use Rattle.std.proofs.lemmas.Bool.{iff_false}
use Rattle.fc_check_lines.proofs.Standing.{last_left, more_left, none_left}
use Rattle.fc_check_lines.proofs.lines.Asking.behind_own.Goals as goal

pub returns-then-is_empty : goal.returns-then-is_empty
returns-then-is_empty g c = λ actor.
    none_left (g.T.Told.grain c.args.told.now) (g.T.Told.whole c.args.told.now) c.args.reply.now actor c.args.requests c.args.behind (c.is_empty.ensures.0 c.if-is_empty.true)

pub returns-then-not-is_empty : goal.returns-then-not-is_empty
returns-then-not-is_empty g c = λ actor.
    more_left (g.T.Told.grain c.args.told.now) (g.T.Told.whole c.args.told.now) c.args.reply.now actor c.args.requests c.take_first.new.self c.args.behind
    (iff_false c.is_empty.ensures c.if-is_empty.false) c.take_first.ensures (iff_false c.is_empty-2.ensures c.if-not-is_empty.true)

pub returns : goal.returns
returns g c =
    last_left (g.T.Told.grain c.args.told.now) (g.T.Told.whole c.args.told.now) c.args.reply.now c.behind_last.result c.args.requests c.take_first.new.self c.args.behind
    (iff_false c.is_empty.ensures c.if-is_empty.false) c.take_first.ensures (c.is_empty-2.ensures.0 c.if-not-is_empty.false) c.behind_last.ensures
