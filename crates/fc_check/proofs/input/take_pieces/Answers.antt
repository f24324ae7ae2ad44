-- A piece more, the calls that are the last, and the byte past the greatest input.
use Rattle.std.proofs.Common.{List, ℕ, length, take, subst, sym, arith, length-take}
use Rattle.fc_check.specs.Input.{TakenSoFar, TakenTo}
use Rattle.fc_check.proofs.InputLemmas.{taken_more, taken_past, taken_some, taken_to}
use Rattle.fc_check.proofs.input.take_pieces.Goals as goal

pub loop-bytes-preserved : goal.loop-bytes-preserved
loop-bytes-preserved g c =
    let before = g.S.Source.meaning c.args.source.now in
    let after = g.S.Source.meaning c.take_piece.new.source in
    let most : ℕ = length (take c.min-most.result c.loop-bytes.buffer) in
    let piece = rw c.in-Ok-None.field-0-is at c.in-Ok-None.ensures.taken in
    subst (λ (l : List ℕ). TakenSoFar before l after) (sym piece.3)
    (
    taken_more most before (g.S.Source.meaning c.loop-bytes.source) after c.loop-bytes.bytes.items piece.0 c.loop-bytes.invariant piece.2 piece.1
    c.in-Ok-None.ensures.faults
    (omega (arith, length-take c.min-most.result c.loop-bytes.buffer, c.min-most.ensures, c.len.ensures, c.loop-bytes.invariant.within))
    )

pub returns-in-Ok-Some-clause-taken : goal.returns-in-Ok-Some-clause-taken
returns-in-Ok-Some-clause-taken g c =
    let before = g.S.Source.meaning c.args.source.now in
    let after = g.S.Source.meaning c.take_piece.new.source in
    let last = rw c.in-Ok-Some.field-0-is at c.in-Ok-Some.ensures.taken in
    subst (λ (l : List ℕ). TakenTo c.in-Ok-Some.end before l after) (sym last.2)
    (
    taken_to c.in-Ok-Some.end (length (take c.min-most.result c.loop-bytes.buffer)) before (g.S.Source.meaning c.loop-bytes.source) after c.loop-bytes.bytes.items
    c.loop-bytes.invariant last.0 last.1
    )

pub returns-in-Err-clause-some : goal.returns-in-Err-clause-some
returns-in-Err-clause-some g c =
    let most : ℕ = length (take c.min-most.result c.loop-bytes.buffer) in
    taken_some most (g.S.Source.meaning c.args.source.now) (g.S.Source.meaning c.loop-bytes.source) (g.S.Source.meaning c.take_piece.new.source)
    c.loop-bytes.bytes.items c.in-Err.ensures.taken.0 c.loop-bytes.invariant c.in-Err.ensures.taken.1
    (omega (arith, length-take c.min-most.result c.loop-bytes.buffer, c.min-most.ensures, c.len.ensures, c.loop-bytes.invariant.within))

pub returns-clause-taken : goal.returns-clause-taken
returns-clause-taken g c =
    taken_past c.take_past.result (g.S.Source.meaning c.args.source.now) (g.S.Source.meaning c.loop-bytes.source) (g.S.Source.meaning c.take_past.new.source)
    c.loop-bytes.bytes.items c.loop-bytes.invariant (omega (arith, c.loop-bytes.invariant.within)) c.take_past.ensures
