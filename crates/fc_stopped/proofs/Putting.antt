-- What a sink got of a text that is known and of one behind it.
use Rattle.std.proofs.Common.{◌≡◌, ◌⊎◌, ℕ, true, false, List, [], ◌++◌, inl, inr, refl, sym, ap, subst, ◌∙◌, Option, Result, Ok, Err}
use Rattle.std.proofs.lemmas.List.{append-nil}
use Rattle.fc_base.specs.Count.{HasRisen}
use Rattle.fc_call.specs.declared.status.Status.{Status}
use Rattle.fc_call.specs.declared.status.Status.TheVariants as status
use Rattle.fc_entry.proofs.WrittenLemmas.{Written-cut, Written-then}
use Rattle.fc_entry.specs.Written.{Written}
use Rattle.fc_io.specs.Sink.{AddsFront, SinkState, held_with}
use Rattle.fc_recovery_text.specs.Putting.{StateIsPut}
use Rattle.fc_recovery_text.specs.declared.state.Unwritten.{Unwritten}
use Rattle.fc_recovery_text.specs.declared.state.Unwritten.TheVariants.{Failed, NoMemory}
use Rattle.fc_run.proofs.OutputLemmas.{HasRisen-before, held_nothing}
use Rattle.fc_stopped.specs.Ending.{StatePut, StatusWritten}

pub adds_all : (held : Option (List ℕ)) (text : List ℕ) (after : Option (List ℕ)) → after ≡ held_with held text → AddsFront held text after
adds_all held text after is = record { front = text; rest = []; split = sym (append-nil text); added = is }

pub adds_none : (held : Option (List ℕ)) (text : List ℕ) → AddsFront held text held
adds_none held text = record { front = []; rest = text; split = refl; added = held_nothing held }

-- Where a text that the first holds of is one that the second holds of: of a whole text, and of what was put of one.
pub put_as : (known : List ℕ) (Of OfFront To ToFront : List ℕ → Type 0) (is : Status) (before after : SinkState) → ((text : List ℕ) → Of text → To text) → ((text : List ℕ) → OfFront text → ToFront text) →
    StatePut known Of OfFront is before after → StatePut known To ToFront is before after
put_as known Of OfFront To ToFront status.Done before after turns fronts put = (put.0, turns put.0 put.1, put.2, put.3)
put_as known Of OfFront To ToFront status.Usage before after turns fronts put = absurd put
put_as known Of OfFront To ToFront status.ReadFault before after turns fronts put = absurd put
put_as known Of OfFront To ToFront status.WriteFault before after turns fronts put = (put.0, fronts put.0 put.1, put.2, put.3)
put_as known Of OfFront To ToFront status.NoMemory before after turns fronts put = (put.0, fronts put.0 put.1, put.2)
put_as known Of OfFront To ToFront status.LogFull before after turns fronts put = absurd put
put_as known Of OfFront To ToFront status.TooLong before after turns fronts put = absurd put
put_as known Of OfFront To ToFront status.Unended before after turns fronts put = absurd put
put_as known Of OfFront To ToFront status.Refuted before after turns fronts put = absurd put

module _ (known : List ℕ) (IsText IsFront : List ℕ → Type 0) (before mid put : SinkState) (is : Status) (after : SinkState) (first : Written before known false mid)
    (whole : (text : List ℕ) → IsText text → IsFront text) where
  abbrev Ends : Status → Type 0
  Ends s = StatePut known IsText IsFront s before after

  -- The known text is put, and then one behind it or a front of that; what waits is sent on. A whole text is a front of itself.
  pub state_put : (written : Result (Unit {0}) Unwritten) → StateIsPut written IsText IsFront mid put → StatusWritten written is put after → StatePut known IsText IsFront is before after
  state_put (Ok done) state sent =
      let both : Written before (known ++ state.0) false put = Written-then before known mid state.0 false put first state.2 in
      ends state.0 state.1 both sent.0 sent.1
    where
      ends : (text : List ℕ) → IsText text → Written before (known ++ text) false put → after.held ≡ put.held →
          ((is ≡ status.Done) × (after.sent ≡ after.held)) ⊎ ((is ≡ status.WriteFault) × HasRisen put.faults after.faults) → Ends is
      ends text right both held (inl done) = subst Ends (sym done.0) (text, right, held ∙ both.held, done.1)
      ends text right both held (inr failed) =
          subst Ends (sym failed.0) (
            text,
            whole text right,
            adds_all before.held (known ++ text) after.held (held ∙ both.held),
            HasRisen-before before.faults put.faults after.faults both.faults.kept failed.1,
          )
  state_put (Err Failed) state sent =
      let both : Written before (known ++ state.0) true put = Written-then before known mid state.0 true put first state.2 in
      subst Ends (sym sent.0) (
        state.0,
        state.1,
        subst (λ (k : SinkState). AddsFront before.held (known ++ state.0) k.held) (sym sent.1) both.front,
        subst (λ (k : SinkState). HasRisen before.faults k.faults) (sym sent.1) both.faults.cause,
      )
  state_put (Err NoMemory) state sent =
      let both : Written before (known ++ state.0) false put = Written-then before known mid state.0 false put first state.2 in
      subst Ends (sym sent.0) (state.0, state.1, adds_all before.held (known ++ state.0) after.held (ap (λ (k : SinkState). k.held) sent.1 ∙ both.held))

-- Not all of the known text was put.
pub known_cut : (known : List ℕ) (IsText IsFront : List ℕ → Type 0) (before after : SinkState) → IsFront [] → Written before known true after →
    StatePut known IsText IsFront status.WriteFault before after
known_cut known IsText IsFront before after nothing written =
    let cut : Written before (known ++ []) true after = Written-cut before known [] after written in
    ([], nothing, cut.front, cut.faults.cause)

-- Nothing was put, for want of memory.
pub none_put : (known : List ℕ) (IsText IsFront : List ℕ → Type 0) (sink : SinkState) → IsFront [] → StatePut known IsText IsFront status.NoMemory sink sink
none_put known IsText IsFront sink nothing = ([], nothing, adds_none sink.held (known ++ []))
