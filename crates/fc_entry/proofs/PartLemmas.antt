-- A text that is written part by part, until one of them fails.
use Rattle.std.proofs.Common.{◌≡◌, ℕ, Bool, true, false, List, [], ◌∷◌, sym, subst}
use Rattle.std.proofs.lemmas.List.{append-nil}
use Rattle.std.specs.List.{concat}
use Rattle.fc_io.specs.Sink.{SinkState}
use Rattle.fc_entry.specs.Written.{Written}
use Rattle.fc_entry.proofs.WrittenLemmas.{Written-then, Written-cut}

-- the parts were written in order: all of them, or those before one that failed
pub data Sequence : SinkState → List (List ℕ) → Bool → SinkState → Type 0 where
  -- this part failed
  cut : {a : SinkState} {t : List ℕ} {ts : List (List ℕ)} {c : SinkState} → Written a t true c → Sequence a (t ∷ ts) true c
  -- this part was written, and then the others
  next :
      {a : SinkState} {t : List ℕ} {b : SinkState} {ts : List (List ℕ)} {failed : Bool} {c : SinkState} →
      Written a t false b →
      Sequence b ts failed c →
      Sequence a (t ∷ ts) failed c
  -- the last part, written or failed
  last : {a : SinkState} {t : List ℕ} {failed : Bool} {c : SinkState} → Written a t failed c → Sequence a (t ∷ []) failed c

-- the same text, said in another way
pub Written-as : {a : SinkState} {t u : List ℕ} {failed : Bool} {c : SinkState} → t ≡ u → Written a t failed c → Written a u failed c
Written-as {a} {t} {u} {failed} {c} same written =
    let P : List ℕ → Type 0 = λ text. Written a text failed c in
    subst P same written

whole :
    (a : SinkState) (ts : List (List ℕ)) (failed : Bool) (c : SinkState) →
    Sequence a ts failed c →
    Written a (concat ts) failed c
whole a [] failed c sequence = elim sequence [ ]
whole a (t ∷ ts) true c (cut h) = Written-cut a t (concat ts) c h
whole a (t ∷ ts) failed c (next {b = b} h rest) = Written-then a t b (concat ts) failed c h (whole b ts failed c rest)
whole a (t ∷ []) failed c (last h) = Written-as (sym (append-nil t)) h

-- so the text that the parts make was written
pub Written-parts :
    {a : SinkState} (ts : List (List ℕ)) {u : List ℕ} {failed : Bool} {c : SinkState} →
    concat ts ≡ u →
    Sequence a ts failed c →
    Written a u failed c
Written-parts {a} ts {u} {failed} {c} is_text sequence = Written-as is_text (whole a ts failed c sequence)
