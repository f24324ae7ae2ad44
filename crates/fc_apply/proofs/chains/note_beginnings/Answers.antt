use Rattle.fc_apply.proofs.Noting.{begins_can, begins_next_at}
use Rattle.fc_apply.proofs.chains.note_beginnings.Goals as goal

pub began-requires : goal.began-requires
began-requires c =
    begins_can c.requires.ready.0 c.args.changes.now c.args.pairs.now c.loop-pair.changes c.loop-pair.pair-index _ c.loop-pair-test.true (c.loop-pair.invariant c.requires.ready.0 c.requires.ready.1)

pub loop-pair-preserved : goal.loop-pair-preserved
loop-pair-preserved c slots ready =
    begins_next_at slots c.args.changes.now c.args.pairs.now c.loop-pair.changes c.began.new.self c.loop-pair.pair-index _ c.requires.others c.loop-pair-test.true (c.loop-pair.invariant slots ready) c.began.ensures
