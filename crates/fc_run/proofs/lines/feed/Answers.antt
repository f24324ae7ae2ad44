-- One byte more; the last of them; and a stop at one byte is a stop in the piece.
use Rattle.std.proofs.Common.{refl, ◌++◌, take}
use Rattle.std.proofs.lemmas.List.{append-nil}
use Rattle.fc_run.proofs.GrowingLemmas.{GrowsTo-same, GrowsTo-then}
use Rattle.fc_run.proofs.ProgressLemmas.{Fed-next, Fed-within}
use Rattle.fc_run.proofs.lines.feed.Goals as goal

pub loop-byte-init : goal.loop-byte-init
loop-byte-init g c = record {
  room = c.requires.room;
  named = λ named. named;
  grows = GrowsTo-same c.args.history.now;
  fed = λ start bytes before. rw (append-nil bytes) before;
}

pub feed_byte-requires : goal.feed_byte-requires
feed_byte-requires g c = record {
  start = c.requires.start;
  bytes = c.requires.bytes ++ take c.loop-byte.byte-index c.args.piece.now;
  progress = c.loop-byte.invariant.fed c.requires.start c.requires.bytes c.requires.progress;
  room = c.loop-byte.invariant.room;
}

pub returns-in-Err-clause-fed : goal.returns-in-Err-clause-fed
returns-in-Err-clause-fed g c = λ start bytes before.
    Fed-within c.in-Err.stop (g.A.Answers.runs c.feed_byte.new.answers start) bytes c.args.piece.now c.loop-byte.byte-index _ c.feed_byte.new.history
    c.loop-byte-test.true refl
    (c.in-Err.ensures.fed start (bytes ++ take c.loop-byte.byte-index c.args.piece.now) (c.loop-byte.invariant.fed start bytes before))

pub returns-in-Err-clause-named : goal.returns-in-Err-clause-named
returns-in-Err-clause-named g c = λ named. c.in-Err.ensures.named (c.loop-byte.invariant.named named)

pub loop-byte-preserved : goal.loop-byte-preserved
loop-byte-preserved g c = record {
  room = c.in-Ok.ensures.limit;
  named = λ named. c.in-Ok.ensures.named (c.loop-byte.invariant.named named);
  grows = GrowsTo-then c.args.history.now c.loop-byte.history c.feed_byte.new.history c.loop-byte.invariant.grows c.in-Ok.ensures.grows;
  fed = λ start bytes before.
      Fed-next (g.A.Answers.runs c.feed_byte.new.answers start) bytes c.args.piece.now c.loop-byte.byte-index _
      c.feed_byte.new.line.items c.feed_byte.new.history c.loop-byte-test.true refl
      (c.in-Ok.ensures.fed start (bytes ++ take c.loop-byte.byte-index c.args.piece.now) (c.loop-byte.invariant.fed start bytes before));
}
