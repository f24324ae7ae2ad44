-- The line of a session, or where it stops.
use Rattle.std.proofs.Common.{◌≡◌, ◌<◌, ◌++◌, true, length, take, drop, sym, subst, ◌∙◌, arith}
use Rattle.std.proofs.lemmas.List.{length-drop, take_rest}
use Rattle.fc_reading.specs.Stops.{StopsAt}
use Rattle.fc_check.specs.Progress.{IsSessionLine}
use Rattle.fc_check.specs.Traces.{session_line}
use Rattle.fc_check.proofs.InputTraces.{IsPart, begins_s}
use Rattle.fc_check.proofs.JudgeLemmas.{letter_there, names_of_trace, said_with, stops_line}
use Rattle.fc_check.proofs.StopLemmas.{input_read, malformed-behind, not_full-behind}
use Rattle.fc_check.proofs.session.judge_session.Goals as goal

pub judge_history-requires-clause-names : goal.judge_history-requires-clause-names
judge_history-requires-clause-names c = names_of_trace c.args.header.now c.args.history.now (take c.args.place c.args.bytes.now) c.requires.trace

pub returns-in-Ok-judge_history : goal.returns-in-Ok-judge_history
returns-in-Ok-judge_history c =
    let header = c.args.header.now in
    let history = c.args.history.now in
    let bytes = c.args.bytes.now in
    let place = c.args.place in
    let session = c.in-Ok.session.now in
    let line : drop place bytes ≡ session_line ++ session = sym (take_rest bytes place) ∙ c.in-Ok.ensures.behind in
    said_with c.in-Ok-judge_history.verdict header history session bytes (input_read header history bytes place session c.requires.trace line)
    c.requires.room c.in-Ok-judge_history.ensures

pub returns-in-Err : goal.returns-in-Err
returns-in-Err c =
    let header = c.args.header.now in
    let history = c.args.history.now in
    let bytes = c.args.bytes.now in
    let place = c.args.place in
    let stopped = c.in-Err.stopped in
    let some : 0 < length (drop place bytes) = omega (arith, c.requires.there, length-drop place bytes) in
    let letter : begins_s (drop place bytes) ≡ true = letter_there bytes place c.requires.there c.requires.letter in
    let line : StopsAt IsSessionLine (drop place bytes) stopped = subst (λ l. StopsAt IsSessionLine l stopped) (take_rest bytes place) c.in-Err.ensures.malformed in
    let stops : StopsAt (IsPart header.grain (length history.entries)) (drop place bytes) stopped =
    stops_line header.grain (length history.entries) (drop place bytes) stopped some letter line in (
      malformed-behind header history bytes place (omega (arith, c.requires.there)) c.requires.trace stopped c.requires.there stops,
      not_full-behind header history bytes place stopped (omega (arith, c.requires.there)) c.requires.trace c.requires.room (λ all. c.requires.letter) stops,
    )
