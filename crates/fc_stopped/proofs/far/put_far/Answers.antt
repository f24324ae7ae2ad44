-- The parts make the line.
use Rattle.std.proofs.Common.{◌≡◌, ℕ, List, ◌++◌, codes, decimal, is_err, sym, ap, subst, ◌∙◌, append_assoc}
use Rattle.fc_entry.specs.Written.{Written}
use Rattle.fc_stopped.specs.Text.{far_text}
use Rattle.fc_stopped.specs.declared.far.Far.{Far}
use Rattle.fc_stopped.specs.declared.far.Far.TheVariants.{ToCall}
use Rattle.fc_stopped.proofs.far.put_far.Goals as goal

call_line : (call : ℕ) (digits : List ℕ) → digits ≡ decimal call → codes "stopped at " ++ (digits ++ codes "\n") ≡ far_text (ToCall call)
call_line call digits is =
    ap (λ (d : List ℕ). codes "stopped at " ++ (d ++ codes "\n")) is ∙ sym (append_assoc (codes "stopped at ") (decimal call) (codes "\n"))

pub returns-in-ToCall : goal.returns-in-ToCall
returns-in-ToCall g c =
    let Puts : List ℕ → Type 0 = λ text. Written (g.K.Sink.meaning c.args.sink.now) text (is_err c.put_all.result) (g.K.Sink.meaning c.put_all.new.sink) in
    subst (λ (far : Far). Puts (far_text far)) (sym c.in-ToCall.is)
    (subst Puts (call_line c.in-ToCall.call c.as_bytes.result.now (c.as_bytes.ensures.value ∙ c.format.ensures.text)) c.put_all.ensures)

pub returns-in-ToFull : goal.returns-in-ToFull
returns-in-ToFull g c =
    let Puts : List ℕ → Type 0 = λ text. Written (g.K.Sink.meaning c.args.sink.now) text (is_err c.put_text-in-ToFull.result) (g.K.Sink.meaning c.put_text-in-ToFull.new.sink) in
    subst (λ (far : Far). Puts (far_text far)) (sym c.in-ToFull.is) c.put_text-in-ToFull.ensures
