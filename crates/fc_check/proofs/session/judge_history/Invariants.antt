use Rattle.fc_check.specs.Progress.{AnswerSoFar}
use Rattle.fc_check.proofs.session.judge_history.Given as goal

-- the entries before this one are the first of a run, and all places behind them are known
abbrev pub invariant-loop-number : goal.invariant-loop-number
invariant-loop-number l = AnswerSoFar l.header l.history l.session l.number l.answering
