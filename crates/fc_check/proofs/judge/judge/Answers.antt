-- The first line stops, and so does every trace.
use Rattle.fc_check.proofs.StopLemmas.{malformed-line, not_full-line}
use Rattle.fc_check.proofs.judge.judge.Goals as goal

pub returns-in-Err : goal.returns-in-Err
returns-in-Err c = (malformed-line c.args.bytes.now c.in-Err.place c.in-Err.ensures.malformed, not_full-line c.args.bytes.now c.in-Err.place c.in-Err.ensures.malformed)
