-- The words of sources and sinks on closed examples.
use Rattle.std.proofs.Common.{◌≡◌, ℕ, true, false, [], ◌∷◌, Ok, Some, refl, inl, inr, arith}
use Rattle.fc_io.specs.Calls.{fails_now, one_call_on}
use Rattle.fc_io.specs.Source.{SourceState, AfterTake}
use Rattle.fc_io.specs.Sink.{SinkState, AfterPut, AfterFlush}

the_next_fails : fails_now (3 ∷ 1 ∷ []) ≡ true
the_next_fails = refl

one_nearer : one_call_on (3 ∷ 1 ∷ []) ≡ 2 ∷ 0 ∷ []
one_nearer = refl

-- a source of three bytes whose second call fails
abbrev source : SourceState
source = record { left = Some (7 ∷ 8 ∷ 9 ∷ []); failing = Some (2 ∷ []); faults = 0 }

a_take_of_two : AfterTake {E = ℕ} source (Ok 2) (7 ∷ 8 ∷ 0 ∷ []) (record source { left = Some (9 ∷ []); failing = Some (1 ∷ []) })
a_take_of_two = record {
  taken = record { fits = omega arith; next = refl; end = λ none. absurd (omega (arith, none)) };
  left = tt;
  failing = refl;
  fails_as_told = refl;
  faults = record { kept = omega arith; cause = tt; quiet = refl };
}

no_take_that_loses_a_byte : AfterTake {E = ℕ} source (Ok 1) (7 ∷ []) (record source { left = Some (9 ∷ []); failing = Some (1 ∷ []) }) → ⊥
no_take_that_loses_a_byte take = cc (take.taken.next)

no_early_end : (after : SourceState) → AfterTake {E = ℕ} source (Ok 0) (0 ∷ []) after → ⊥
no_early_end after take = cc (take.taken.end refl)

-- a sink whose next call fails may get a front of the part, and nothing else
abbrev sink : SinkState
sink = record { held = Some (1 ∷ []); sent = Some []; failing = Some (1 ∷ []); faults = 0 }

a_failed_put : AfterPut sink (2 ∷ 3 ∷ []) true (record { held = Some (1 ∷ 2 ∷ []); sent = Some []; failing = Some (0 ∷ []); faults = 1 })
a_failed_put = record {
  held = tt;
  front = record { front = 2 ∷ []; rest = 3 ∷ []; split = refl; added = refl };
  sent = refl;
  failing = refl;
  fails_as_told = refl;
  faults = record { kept = omega arith; cause = inl (omega arith); quiet = tt };
}

no_failure_that_is_not_counted : AfterPut sink (2 ∷ []) true (record sink { failing = Some (0 ∷ []) }) → ⊥
no_failure_that_is_not_counted put = elim (put.faults.cause) [ inl rose ↦ omega (arith, rose) | inr last ↦ omega (arith, last) ]

-- a flush that is done has sent all on
no_done_flush_that_keeps_a_byte_back : (before : SinkState) → AfterFlush before false (record { held = Some (1 ∷ []); sent = Some []; failing = Some []; faults = 0 }) → ⊥
no_done_flush_that_keeps_a_byte_back before flush = cc (flush.sent)

no_failed_flush_that_sends_on : AfterFlush sink true (record { held = Some (1 ∷ []); sent = Some (1 ∷ []); failing = Some (0 ∷ []); faults = 1 }) → ⊥
no_failed_flush_that_sends_on flush = cc (flush.unsent)
