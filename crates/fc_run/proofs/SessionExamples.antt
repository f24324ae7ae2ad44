-- The words of a session on closed examples.
use Rattle.std.proofs.Common.{◌≡◌, ℕ, true, false, List, [], ◌∷◌, Some, refl, inl, inr, arith}
use Rattle.fc_entry.specs.HistoryState.{HistoryState}
use Rattle.fc_io.specs.Sink.{SinkState}
use Rattle.fc_io.specs.Source.{SourceState}
use Rattle.fc_run.specs.Headline.{Session, SessionEnds}
use Rattle.fc_run.specs.Input.{OfFirstTaken}
use Rattle.fc_run.specs.Runs.{Runs}
use Rattle.fc_run.specs.declared.ended.Ended.TheVariants.{Done, Unended}
use Rattle.fc_run.specs.declared.form.Form.TheVariants.{Text}

-- a source that has a newline left, and one that is at its end
abbrev going : SourceState
going = record { left = Some (10 ∷ []); failing = Some []; faults = 0 }

abbrev at_end : SourceState
at_end = record { left = Some []; failing = Some []; faults = 0 }

-- one line, `x`
abbrev IsX : List (List ℕ) → Type 0
IsX lines = lines ≡ (120 ∷ []) ∷ []

-- of the bytes `x` the line counts at the end of input alone, of `x`, newline, `y` in any case
the_last_line_at_the_end : OfFirstTaken at_end (120 ∷ []) IsX
the_last_line_at_the_end = record {
  lines = (120 ∷ []) ∷ [];
  are = inr (refl, refl);
  of = record { first = (120 ∷ []) ∷ []; rest = []; split = refl; holds = refl };
}

no_cut_line_before_the_end : OfFirstTaken going (120 ∷ []) IsX → ⊥
no_cut_line_before_the_end taken = elim (taken.are) [ inl none ↦ cc | inr all ↦ cc (all.0) ]

a_line_that_ended : OfFirstTaken going (120 ∷ 10 ∷ 121 ∷ []) IsX
a_line_that_ended = record {
  lines = (120 ∷ []) ∷ [];
  are = inl refl;
  of = record { first = (120 ∷ []) ∷ []; rest = []; split = refl; holds = refl };
}

-- an answerer of no line, a history without entries, and a sink that holds a byte which waits
abbrev no_line : Runs
no_line = record { Whole = λ lines history. lines ≡ []; Full = λ lines history. ⊥; Front = λ lines history. ⊥; is_open = λ lines. false }

abbrev no_entry : HistoryState
no_entry = record { actors = []; entries = [] }

abbrev waiting : SinkState
waiting = record { held = Some (7 ∷ []); sent = Some []; failing = Some []; faults = 0 }

-- a session without a line is done when all that the sink holds was sent on, and not before
abbrev leaving : SinkState → Session
leaving sink' =
    record { ended = Done; form = Text; source = at_end; source' = at_end; sink = waiting; sink' = sink'; history = no_entry }

done : SessionEnds (leaving (record waiting { sent = Some (7 ∷ []) })) no_line
done = record { bytes = []; gave = refl; ends = (refl, omega arith, refl, refl, (refl, refl)) }

not_done : SessionEnds (leaving waiting) no_line → ⊥
not_done session = cc (session.ends.4.1)

-- where something is open after the lines, it ends so, and isn't done
abbrev something_open : Runs
something_open = record no_line { is_open = λ lines. true }

unended : SessionEnds (record (leaving (record waiting { sent = Some (7 ∷ []) })) { ended = Unended }) something_open
unended = record { bytes = []; gave = refl; ends = (refl, omega arith, refl, refl, (refl, refl)) }

not_done_open : SessionEnds (leaving (record waiting { sent = Some (7 ∷ []) })) something_open → ⊥
not_done_open session = cc (session.ends.3)
