-- One entry more, and where reading stops.
use Rattle.std.proofs.Common.{◌≡◌, ◌-◌, ◌<◌, false, List, ℕ, length, take, drop, subst, arith}
use Rattle.std.proofs.lemmas.List.{length-drop, take_all, take_rest}
use Rattle.fc_reading.specs.Stops.{StopsAt}
use Rattle.fc_reading_entries.specs.Entries.{IsEntryText, ReadNext}
use Rattle.fc_check.specs.Traces.{IsTraceOf}
use Rattle.fc_check.proofs.InputTraces.{IsPart, begins_s}
use Rattle.fc_check.proofs.JudgeLemmas.{other_there, stops_entry}
use Rattle.fc_check.proofs.StopLemmas.{malformed-behind, not_full-behind, read_some, trace_read}
use Rattle.fc_check.proofs.judge.judge_entries.Goals as goal

-- what stands from the place on
behind : (bytes : List ℕ) (place : ℕ) (Holds : List ℕ → Type 0) → Holds (take (length bytes - place) (drop place bytes)) → Holds (drop place bytes)
behind bytes place Holds holds = subst Holds (take_rest bytes place) holds

pub loop-place-smaller : goal.loop-place-smaller
loop-place-smaller c =
    let old = c.loop-place.progress.history in
    let new = c.read_next.new.progress.history in
    let count = c.in-Ok-read_next.count in
    let some : 0 < count =
    read_some c.args.header.now.grain old new (drop c.loop-place.place c.args.bytes.now) count
    (behind c.args.bytes.now c.loop-place.place (λ l. ReadNext c.args.header.now.grain old l count new) c.in-Ok-read_next.ensures.read) in
    omega arith

pub loop-place-preserved : goal.loop-place-preserved
loop-place-preserved c =
    let old = c.loop-place.progress.history in
    let new = c.read_next.new.progress.history in
    let count = c.in-Ok-read_next.count in
    record {
      within = omega (arith, c.in-Ok-read_next.ensures.within, length-drop c.loop-place.place c.args.bytes.now);
      trace =
          trace_read c.args.header.now old new c.args.bytes.now c.loop-place.place count c.loop-place.invariant.within c.loop-place.invariant.trace
          (behind c.args.bytes.now c.loop-place.place (λ l. ReadNext c.args.header.now.grain old l count new) c.in-Ok-read_next.ensures.read);
      known = c.in-Ok-read_next.ensures.known;
    }

pub returns-in-Err-Malformed : goal.returns-in-Err-Malformed
returns-in-Err-Malformed c =
    let header = c.args.header.now in
    let bytes = c.args.bytes.now in
    let place = c.loop-place.place in
    let old = c.loop-place.progress.history in
    let stopped = c.in-Err-Malformed.stopped in
    let entry : StopsAt (IsEntryText header.grain (length old.entries)) (drop place bytes) stopped =
    behind bytes place (λ l. StopsAt (IsEntryText header.grain (length old.entries)) l stopped) (rw c.in-Err-Malformed.field-0-is at c.in-Err-Malformed.ensures.malformed) in
    let some : 0 < length (drop place bytes) = omega (arith, c.loop-place-test.true, length-drop place bytes) in
    let other : begins_s (drop place bytes) ≡ false = other_there bytes place c.loop-place-test.true c.if-bytes-place-eq115.false in
    let stops : StopsAt (IsPart header.grain (length old.entries)) (drop place bytes) stopped =
    stops_entry header.grain (length old.entries) (drop place bytes) stopped some other entry in
    let few : length old.entries < 262144 = omega (arith, c.len.ensures, c.loop-place.invariant.known.room) in
    rw c.in-Err-Malformed.field-0-is (
      malformed-behind header old bytes place c.loop-place.invariant.within c.loop-place.invariant.trace stopped c.loop-place-test.true stops,
      not_full-behind header old bytes place stopped c.loop-place.invariant.within c.loop-place.invariant.trace (omega (arith, few))
          (λ all. absurd (omega (arith, all, few))) stops,
    )

pub returns : goal.returns
returns c =
    c.verdict.ensures c.args.header.now c.args.bytes.now c.loop-place.invariant.known
    (
    subst (IsTraceOf c.args.header.now c.loop-place.progress.history)
    (take_all c.loop-place.place c.args.bytes.now (omega arith)) c.loop-place.invariant.trace
    )
