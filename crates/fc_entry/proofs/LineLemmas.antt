-- One more byte, and more bytes, behind a session's bytes.
use Rattle.std.proofs.Common.{◌≡◌, ℕ, Bool, true, false, ◌==◌, cond, List, [], ◌∷◌, ◌++◌, fold, append_assoc, refl, sym, ◌∙◌, ap, subst}
use Rattle.std.proofs.lemmas.List.{append-nil}
use Rattle.std.proofs.lemmas.List.Sums.{fold-append}
use Rattle.fc_entry.specs.Lines.{Lined, line_step, lined, ended_lines, last_line, all_lines, without_return}

-- the bytes of one list and then of another
pub lined-append : (xs ys : List ℕ) → lined (xs ++ ys) ≡ fold line_step (lined xs) ys
lined-append xs ys = fold-append line_step record { ended = []; unended = [] } xs ys

-- a line that ended has ended for good
pub record Grows (old new : List (List ℕ)) : Type 0 where
  pub more : List (List ℕ)
  pub is : new ≡ old ++ more

Grows-step : (from : Lined) (byte : ℕ) (newline : Bool) →
    Grows from.ended (cond {A = Lined} newline
    record { ended = from.ended ++ without_return from.unended ∷ []; unended = [] }
    record { ended = from.ended; unended = from.unended ++ byte ∷ [] }).ended
Grows-step from byte true = record { more = without_return from.unended ∷ []; is = refl }
Grows-step from byte false = record { more = []; is = sym (append-nil from.ended) }

Grows-trans : (xs ys zs : List (List ℕ)) → Grows xs ys → Grows ys zs → Grows xs zs
Grows-trans xs ys zs a b = record {
  more = a.more ++ b.more;
  is = b.is ∙ ap (λ l. l ++ b.more) a.is ∙ append_assoc xs a.more b.more;
}

Grows-fold : (from : Lined) (bytes : List ℕ) → Grows from.ended (fold line_step from bytes).ended
Grows-fold from [] = record { more = []; is = sym (append-nil from.ended) }
Grows-fold from (byte ∷ bytes) =
    Grows-trans from.ended (line_step from byte).ended (fold line_step from (byte ∷ bytes)).ended
    (Grows-step from byte (byte == 10)) (Grows-fold (line_step from byte) bytes)

pub ended_lines-grow : (xs ys : List ℕ) → Grows (ended_lines xs) (ended_lines (xs ++ ys))
ended_lines-grow xs ys =
    let P : Lined → Type 0 = λ l. Grows (lined xs).ended l.ended in
    subst P (sym (lined-append xs ys)) (Grows-fold (lined xs) ys)

-- the lines that ended are the first of all lines
pub all_lines-grow : (xs ys : List ℕ) → Grows (ended_lines xs) (all_lines (xs ++ ys))
all_lines-grow xs ys =
    Grows-trans (ended_lines xs) (ended_lines (xs ++ ys)) (all_lines (xs ++ ys)) (ended_lines-grow xs ys)
    record { more = last_line (lined (xs ++ ys)).unended; is = refl }
