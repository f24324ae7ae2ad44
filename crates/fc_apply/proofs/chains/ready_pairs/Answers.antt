use Rattle.std.proofs.Common.{sym, ◌∙◌}
use Rattle.fc_apply.proofs.Noting.{made_ready, now_apart, plain_ready}
use Rattle.fc_apply.proofs.chains.ready_pairs.Goals as goal

pub loop-pair-preserved-then-not-pair : goal.loop-pair-preserved-then-not-pair
loop-pair-preserved-then-not-pair c =
    plain_ready c.args.cascade.now.sheet.slots c.args.changes.now c.loop-pair.changes c.args.pairs.now c.loop-pair.pair-index _ c.loop-pair-test.true c.loop-pair.invariant c.if-not-pair.true

pub make_ready-requires : goal.make_ready-requires
make_ready-requires c = record {
  fresh =
      now_apart c.args.cascade.now.sheet.slots c.args.changes.now c.loop-pair.changes c.args.pairs.now c.loop-pair.pair-index _ c.requires.others c.loop-pair-test.true c.loop-pair.invariant;
}

pub loop-pair-preserved : goal.loop-pair-preserved
loop-pair-preserved c =
    made_ready c.args.cascade.now.sheet.slots c.args.changes.now c.loop-pair.changes c.make_ready.new.self c.args.pairs.now c.loop-pair.pair-index _ c.grains-grains.result c.make_ready.result c.loop-pair-test.true c.loop-pair.invariant
    c.if-not-pair.false c.grains-grains.ensures c.make_ready.ensures.ok (sym c.is_err.ensures.value ∙ c.if-is_err.false)
