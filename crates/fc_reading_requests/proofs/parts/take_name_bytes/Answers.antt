use Rattle.std.proofs.Common.{◌∙◌, sym, arith}
use Rattle.fc_reading_requests.proofs.PartLemmas.{name-end, name-full, name-next, name-start, name-whole}
use Rattle.fc_reading_requests.proofs.parts.take_name_bytes.Goals as goal

pub loop-place-init : goal.loop-place-init
loop-place-init c = (omega arith, name-start c.args.bytes.now (sym c.if-is_empty.ensures) (sym c.if-not-starts_name.ensures))

pub returns-then-not-continues_name : goal.returns-then-not-continues_name
returns-then-not-continues_name c =
    c.loop-place.invariant.1 ∙ name-end c.args.bytes.now c.loop-place.place c.loop-place-test.true (sym c.if-not-continues_name.ensures)

pub returns-then-place-eq63 : goal.returns-then-place-eq63
returns-then-place-eq63 c =
    c.loop-place.invariant.1
    ∙ name-full c.args.bytes.now c.loop-place.place c.loop-place-test.true c.if-place-eq63.true (sym c.if-not-continues_name.ensures)

pub loop-place-preserved : goal.loop-place-preserved
loop-place-preserved c = (
  omega (arith, c.loop-place.invariant.0, c.if-place-eq63.false),
  c.loop-place.invariant.1
      ∙ name-next c.args.bytes.now c.loop-place.place c.loop-place-test.true (omega (arith, c.loop-place.invariant.0, c.if-place-eq63.false)) (sym c.if-not-continues_name.ensures),
)

pub returns : goal.returns
returns c = c.loop-place.invariant.1 ∙ name-whole c.args.bytes.now c.loop-place.place c.loop-place-test.false
