-- A turn more, the turns that are the last, and the byte past the greatest input.
use Rattle.std.proofs.Common.{arith, ◌+◌, ◌∙◌, is_err, sym, false, true, length, take, ℕ}
use Rattle.fc_run.proofs.GrowingLemmas.{IsPut-added, IsPut-turned}
use Rattle.fc_run.proofs.ReadingLemmas.{ReadTo-last, ReadTo-past, ReadTo-stopped, ReadTo-unwritten, SoFar-more, within-limit}
use Rattle.fc_run.specs.declared.reading.Ending.TheVariants as ending
use Rattle.fc_run.specs.declared.reading.Turn.TheVariants as turn
use Rattle.fc_run.proofs.reading.read_pieces.Goals as goal

pub returns-clause-read : goal.returns-clause-read
returns-clause-read g c = λ start whole.
    ReadTo-past c.ask_past_limit.result c.loop-taken.taken (g.S.Source.meaning c.args.source.now)
    (g.S.Source.meaning c.loop-taken.source) (g.S.Source.meaning c.ask_past_limit.new.source)
    (g.A.Answers.runs c.loop-taken.answers start) c.loop-taken.line.items c.loop-taken.history
    (c.loop-taken.invariant.so_far start whole) (omega arith) c.ask_past_limit.ensures.took c.ask_past_limit.ensures.ends

pub take_turn-requires-clause-can : goal.take_turn-requires-clause-can
take_turn-requires-clause-can g c =
    let so_far = c.loop-taken.invariant.so_far c.requires.fresh.0 c.requires.fresh.1 in
    record { start = c.requires.fresh.0; bytes = so_far.bytes; progress = so_far.progress; room = c.loop-taken.invariant.room }

pub loop-taken-preserved : goal.loop-taken-preserved
loop-taken-preserved g c =
    let most : ℕ = length (take c.min-most.result c.loop-taken.buffer) in
    let put = IsPut-turned (g.K.Sink.meaning c.args.sink.now) (g.K.Sink.meaning c.loop-taken.sink) (g.K.Sink.meaning c.write_new.new.sink)
    c.args.output.now.form c.loop-taken.output.form c.loop-taken.output.put c.write_new.new.self.put c.loop-taken.history c.take_turn.new.history
    (is_err c.write_new.result) false
    c.loop-taken.invariant.form (sym c.is_err.ensures.value ∙ c.if-is_err.false) c.loop-taken.invariant.named c.loop-taken.invariant.put
    c.in-More.ensures.grows c.loop-taken.invariant.got c.write_new.ensures.put in
    record {
      so_far = λ start whole.
          let so_far = c.loop-taken.invariant.so_far start whole in
          SoFar-more c.in-More.n most c.loop-taken.taken (g.S.Source.meaning c.args.source.now)
          (g.S.Source.meaning c.loop-taken.source) (g.S.Source.meaning c.take_turn.new.source)
          (g.A.Answers.runs c.loop-taken.answers start) (g.A.Answers.runs c.take_turn.new.answers start)
          c.loop-taken.line.items c.take_turn.new.line.items c.loop-taken.history c.take_turn.new.history
          so_far c.in-More.ensures.faults c.in-More.ensures.took
          (c.in-More.ensures.turned start so_far.bytes so_far.progress);
      within = omega (arith, c.in-More.ensures.within.1, within-limit c.min-most.result c.loop-taken.taken c.loop-taken.buffer c.min-most.ensures c.loop-taken.invariant.within);
      room = c.in-More.ensures.limit;
      named = c.in-More.ensures.named c.loop-taken.invariant.named;
      form = c.write_new.ensures.form ∙ c.loop-taken.invariant.form;
      put = c.write_new.ensures.within;
      got = put.got;
    }

pub returns-in-End-clause-read : goal.returns-in-End-clause-read
returns-in-End-clause-read g c = λ start whole.
    let so_far = c.loop-taken.invariant.so_far start whole in
    ReadTo-last turn.End ending.End tt so_far c.loop-taken.invariant.within c.in-End.ensures.took (c.in-End.ensures.turned start so_far.bytes so_far.progress)

pub returns-in-Fault-clause-read : goal.returns-in-Fault-clause-read
returns-in-Fault-clause-read g c = λ start whole.
    let so_far = c.loop-taken.invariant.so_far start whole in
    ReadTo-last turn.Fault ending.ReadFault tt so_far c.loop-taken.invariant.within c.in-Fault.ensures.took (c.in-Fault.ensures.turned start so_far.bytes so_far.progress)

pub returns-in-Stopped-clause-read : goal.returns-in-Stopped-clause-read
returns-in-Stopped-clause-read g c = λ start whole.
    let so_far = c.loop-taken.invariant.so_far start whole in
    ReadTo-stopped c.in-Stopped.field-0 _ c.loop-taken.taken c.in-Stopped.stop (g.S.Source.meaning c.args.source.now)
    (g.S.Source.meaning c.loop-taken.source) (g.S.Source.meaning c.take_turn.new.source)
    (g.A.Answers.runs c.loop-taken.answers start) (g.A.Answers.runs c.take_turn.new.answers start)
    c.loop-taken.line.items c.take_turn.new.line.items c.loop-taken.history c.take_turn.new.history
    so_far (within-limit c.min-most.result c.loop-taken.taken c.loop-taken.buffer c.min-most.ensures c.loop-taken.invariant.within) c.in-Stopped.ensures.took
    (c.in-Stopped.ensures.turned start so_far.bytes so_far.progress)

pub returns-then-is_err-clause-read : goal.returns-then-is_err-clause-read
returns-then-is_err-clause-read g c = λ start whole.
    let most : ℕ = length (take c.min-most.result c.loop-taken.buffer) in
    let so_far = c.loop-taken.invariant.so_far start whole in
    ReadTo-unwritten (c.loop-taken.taken + c.in-More.n) (g.S.Source.meaning c.args.source.now) (g.S.Source.meaning c.take_turn.new.source)
    (g.A.Answers.runs c.take_turn.new.answers start) c.take_turn.new.line.items c.take_turn.new.history
    (SoFar-more c.in-More.n most c.loop-taken.taken (g.S.Source.meaning c.args.source.now)
    (g.S.Source.meaning c.loop-taken.source) (g.S.Source.meaning c.take_turn.new.source)
    (g.A.Answers.runs c.loop-taken.answers start) (g.A.Answers.runs c.take_turn.new.answers start)
    c.loop-taken.line.items c.take_turn.new.line.items c.loop-taken.history c.take_turn.new.history
    so_far c.in-More.ensures.faults c.in-More.ensures.took
    (c.in-More.ensures.turned start so_far.bytes so_far.progress))
    (omega (arith, c.in-More.ensures.within.1, within-limit c.min-most.result c.loop-taken.taken c.loop-taken.buffer c.min-most.ensures c.loop-taken.invariant.within))

pub returns-in-End-clause-put : goal.returns-in-End-clause-put
returns-in-End-clause-put g c =
    IsPut-added (g.K.Sink.meaning c.args.sink.now) (g.K.Sink.meaning c.loop-taken.sink) c.args.output.now.form c.loop-taken.output.put
    c.loop-taken.history c.take_turn.new.history c.loop-taken.invariant.named c.loop-taken.invariant.put c.in-End.ensures.grows c.loop-taken.invariant.got

pub returns-in-Fault-clause-put : goal.returns-in-Fault-clause-put
returns-in-Fault-clause-put g c =
    IsPut-added (g.K.Sink.meaning c.args.sink.now) (g.K.Sink.meaning c.loop-taken.sink) c.args.output.now.form c.loop-taken.output.put
    c.loop-taken.history c.take_turn.new.history c.loop-taken.invariant.named c.loop-taken.invariant.put c.in-Fault.ensures.grows c.loop-taken.invariant.got

pub returns-in-Stopped-clause-put : goal.returns-in-Stopped-clause-put
returns-in-Stopped-clause-put g c =
    IsPut-added (g.K.Sink.meaning c.args.sink.now) (g.K.Sink.meaning c.loop-taken.sink) c.args.output.now.form c.loop-taken.output.put
    c.loop-taken.history c.take_turn.new.history c.loop-taken.invariant.named c.loop-taken.invariant.put c.in-Stopped.ensures.grows c.loop-taken.invariant.got

pub returns-then-is_err-clause-put : goal.returns-then-is_err-clause-put
returns-then-is_err-clause-put g c =
    IsPut-turned (g.K.Sink.meaning c.args.sink.now) (g.K.Sink.meaning c.loop-taken.sink) (g.K.Sink.meaning c.write_new.new.sink)
    c.args.output.now.form c.loop-taken.output.form c.loop-taken.output.put c.write_new.new.self.put c.loop-taken.history c.take_turn.new.history
    (is_err c.write_new.result) true
    c.loop-taken.invariant.form (sym c.is_err.ensures.value ∙ c.if-is_err.true) c.loop-taken.invariant.named c.loop-taken.invariant.put
    c.in-More.ensures.grows c.loop-taken.invariant.got c.write_new.ensures.put
