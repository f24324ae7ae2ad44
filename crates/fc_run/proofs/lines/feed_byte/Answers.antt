-- A byte that is no newline joins the line at hand; without memory for it, the lines that ended are answered. The line that a newline
-- ends is answered without its carriage return.
use Rattle.std.proofs.Common.{Ok, Err, ◌∙◌, arith}
use Rattle.std.proofs.lemmas.Bool.Decides.{nat_tests}
use Rattle.fc_entry.specs.Lines.{ended_lines}
use Rattle.fc_run.proofs.GrowingLemmas.{GrowsTo-same}
use Rattle.fc_run.proofs.ProgressLemmas.{Fed-newline, Fed-starved}
use Rattle.fc_run.proofs.lines.feed_byte.Goals as goal

pub returns-in-Ok-clause-grows : goal.returns-in-Ok-clause-grows
returns-in-Ok-clause-grows g c = GrowsTo-same c.args.history.now

pub returns-in-Err-clause-grows : goal.returns-in-Err-clause-grows
returns-in-Err-clause-grows g c = GrowsTo-same c.args.history.now

pub returns-in-Err-clause-fed : goal.returns-in-Err-clause-fed
returns-in-Err-clause-fed g c = λ start bytes before.
    Fed-starved (g.A.Answers.runs c.args.answers.now start) bytes c.args.line.now.items c.args.history.now c.args.byte
    (grind (arith, nat_tests, c.if-byte-ne10.true)) before

pub returns-in-Ok-line-clause-fed : goal.returns-in-Ok-line-clause-fed
returns-in-Ok-line-clause-fed g c = λ start bytes before.
    Fed-newline {A = Unit {0}} (Ok tt) (g.A.Answers.runs c.line.new.self start) bytes c.args.line.now.items c.as_slice.result.now c.clear.new.self.items
    c.line.new.history c.args.byte (omega (arith, c.if-byte-ne10.false)) (c.as_slice.ensures.value ∙ c.take_return.ensures) before.unended
    (c.in-Ok-line.ensures.answered start (ended_lines bytes) before.whole) (λ _. c.clear.ensures.items)

pub returns-in-Err-line-clause-fed : goal.returns-in-Err-line-clause-fed
returns-in-Err-line-clause-fed g c = λ start bytes before.
    Fed-newline {A = Unit {0}} (Err c.in-Err-line.stop) (g.A.Answers.runs c.line.new.self start) bytes c.args.line.now.items c.as_slice.result.now
    c.take_return.new.line.items c.line.new.history c.args.byte (omega (arith, c.if-byte-ne10.false)) (c.as_slice.ensures.value ∙ c.take_return.ensures) before.unended
    (c.in-Err-line.ensures.answered start (ended_lines bytes) before.whole) (λ no. cc)
