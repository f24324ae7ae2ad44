-- The parts make the line.
use Rattle.std.proofs.Common.{ℕ, List, is_err, subst, ◌∙◌}
use Rattle.fc_entry.specs.Written.{Written}
use Rattle.fc_run.proofs.SummaryLemmas.{tally-line}
use Rattle.fc_run.proofs.summary.put_tally.Goals as goal

pub returns : goal.returns
returns g c =
    let P : List ℕ → Type 0 =
    λ text. Written (g.K.Sink.meaning c.args.sink.now) text (is_err c.put_all.result) (g.K.Sink.meaning c.put_all.new.sink) in
    subst P
    (tally-line c.args.entries c.args.tally c.as_bytes.result.now c.as_bytes-2.result.now c.as_bytes-3.result.now
    c.as_bytes-4.result.now c.as_bytes-5.result.now c.as_bytes-6.result.now
    (c.as_bytes.ensures.value ∙ c.format.ensures.text) (c.as_bytes-2.ensures.value ∙ c.format-2.ensures.text)
    (c.as_bytes-3.ensures.value ∙ c.format-3.ensures.text) (c.as_bytes-4.ensures.value ∙ c.format-4.ensures.text)
    (c.as_bytes-5.ensures.value ∙ c.format-5.ensures.text) (c.as_bytes-6.ensures.value ∙ c.format-6.ensures.text))
    c.put_all.ensures
