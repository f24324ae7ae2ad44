-- What stands behind a trace: an input is of one history and one session.
use Rattle.std.proofs.Common.{◌≡◌, ◌⊎◌, ℕ, zero, suc, ◌/◌, ◌%◌, ◌==◌, Bool, true, false, cond, List, [], ◌∷◌, ◌++◌, codes, decimal, length, Option, Some, None, inl, inr, refl, sym, ap, subst, ◌∙◌, append_assoc, arith}
use Rattle.std.specs.Fmt.{digit_glyph, digits, digits_onto}
use Rattle.std.specs.List.{concat}
use Rattle.std.proofs.lemmas.Bool.{false≢true}
use Rattle.std.proofs.lemmas.Bool.Decides.{nat_tests}
use Rattle.std.proofs.lemmas.List.{append-nil, append_cancel_left}
use Rattle.fc_base.specs.declared.size.GrainSize.{GrainSize}
use Rattle.fc_entry.specs.HistoryState.{HistoryState}
use Rattle.fc_entry.specs.Text.{line_text, reply_text, request_text, rows_text}
use Rattle.fc_entry.specs.declared.entry.Entry.{Entry}
use Rattle.fc_reading_entries.specs.Entries.{IsEntryText}
use Rattle.fc_reading_notes.specs.Lists.{starts_with}
use Rattle.fc_trace.specs.Notes.{notes_text}
use Rattle.fc_trace.specs.Trace.{traced_by}
use Rattle.fc_trace.specs.declared.header.Header.{Header}
use Rattle.fc_check.specs.Progress.{IsSessionLine}
use Rattle.fc_check.specs.Traces.{AreNextTexts, IsInputOf, IsTraceOf, behind_trace, session_line}
use Rattle.fc_check.proofs.Fronts.{Fronts, fronts}
use Rattle.fc_check.proofs.TraceLemmas.{GoesOn, goes_on, text_of_next, text_some}

-- ---- no entry begins with an `s`

abbrev pub begins_s : List ℕ → Bool
begins_s = starts_with 115

glyph_other : (n : ℕ) → (digit_glyph false (n % 10) == 115) ≡ false
glyph_other n = grind (arith, nat_tests)

one_step :
    (last : Bool) (k m glyph : ℕ) (acc rest : List ℕ) → (glyph == 115) ≡ false → begins_s (digits_onto k 10 false m (glyph ∷ acc) ++ rest) ≡ false →
    begins_s (cond last (glyph ∷ acc) (digits_onto k 10 false m (glyph ∷ acc)) ++ rest) ≡ false
one_step true k m glyph acc rest other more = other
one_step false k m glyph acc rest other more = more

digits_other : (k n : ℕ) (acc rest : List ℕ) → begins_s (acc ++ rest) ≡ false → begins_s (digits_onto k 10 false n acc ++ rest) ≡ false
digits_other zero n acc rest other = other
digits_other (suc k) n acc rest other =
    one_step (n / 10 == 0) k (n / 10) (digit_glyph false (n % 10)) acc rest (glyph_other n)
    (digits_other k (n / 10) (digit_glyph false (n % 10) ∷ acc) rest (glyph_other n))

some_digits : (k n : ℕ) (rest : List ℕ) → begins_s (digits_onto (suc k) 10 false n [] ++ rest) ≡ false
some_digits k n rest =
    one_step (n / 10 == 0) k (n / 10) (digit_glyph false (n % 10)) [] rest (glyph_other n)
    (digits_other k (n / 10) (digit_glyph false (n % 10) ∷ []) rest (glyph_other n))

number_other : (n : ℕ) (rest : List ℕ) → begins_s (decimal n ++ rest) ≡ false
unfolding digits
number_other n rest = some_digits 63 n rest

-- whatever stands behind it, this begins with none
record BeginsOther (front : List ℕ) : Type 0 where
  is : (rest : List ℕ) → begins_s (front ++ rest) ≡ false

more_other : {front : List ℕ} (more : List ℕ) → BeginsOther front → BeginsOther (front ++ more)
more_other {front} more other = record { is = λ rest. ap begins_s (append_assoc front more rest) ∙ other.is (more ++ rest) }

traced_other : (name : List ℕ) (entry : Entry) → BeginsOther (traced_by name entry)
traced_other name entry =
    let number : BeginsOther (decimal entry.number) = record { is = number_other entry.number } in
    let asked : BeginsOther (decimal entry.number ++ codes " " ++ name ++ codes " " ++ request_text entry.request) =
    more_other (request_text entry.request) (more_other (codes " ") (more_other name (more_other (codes " ") number))) in
    let line : BeginsOther (line_text name entry) = more_other (codes "\n") (more_other (reply_text entry.reply) (more_other (codes " -> ") asked)) in
    more_other (codes ".\n") (more_other (rows_text entry.reply) (more_other (notes_text entry) line))

pub entry_other : (size : GrainSize) (number : ℕ) (text rest : List ℕ) → IsEntryText size number text → begins_s (text ++ rest) ≡ false
entry_other size number text rest is = ap (λ (t : List ℕ). begins_s (t ++ rest)) is.4 ∙ (traced_other is.0 is.1).is rest

-- so what stands behind a trace begins with none
pub no_entry : (size : GrainSize) (number : ℕ) (session : Option (List ℕ)) (text rest : List ℕ) → IsEntryText size number text → (text ≡ [] → ⊥) → behind_trace session ≡ text ++ rest → ⊥
no_entry size number None [] rest is some e = some refl
no_entry size number None (byte ∷ text) rest is some e = absurd cc
no_entry size number (Some session) text rest is some e =
    let line : begins_s (behind_trace (Some session)) ≡ true = refl in
    false≢true (sym (entry_other size number text rest is) ∙ ap begins_s (sym e) ∙ line)

-- ---- what goes on as an input

-- what stands behind some entries: texts of further ones, and then a session, if there is one
pub record GoesOnWith (size : GrainSize) (old : HistoryState) (bytes : List ℕ) (new : HistoryState) (session : Option (List ℕ)) : Type 0 where
  pub more : List ℕ
  pub on : GoesOn size old more new
  pub all : bytes ≡ more ++ behind_trace session

-- texts of entries that stand before something are none where a session begins
none_before :
    (size : GrainSize) (old new : HistoryState) (session : Option (List ℕ)) (bytes rest : List ℕ) → GoesOn size old bytes new → behind_trace session ≡ bytes ++ rest →
    (bytes ≡ []) × (new ≡ old)
none_before size old new session bytes rest on e = go on.texts on.told on.text
  where
    go : (texts : List (List ℕ)) → AreNextTexts size old texts new → bytes ≡ concat texts → (bytes ≡ []) × (new ≡ old)
    go [] told text = (text, told)
    go (first ∷ texts) told text =
        absurd
        (
        no_entry size (length old.entries) session first (concat texts ++ rest) (text_of_next size old told.0 first told.1) (text_some size old told.0 first told.1)
        (e ∙ ap (λ (t : List ℕ). t ++ rest) text ∙ append_assoc first (concat texts) rest)
        )

-- an input that a trace begins: what stands behind it are texts of further entries, and a session, if there is one
pub goes_on_with :
    (h k : Header) (mid new : HistoryState) (session : Option (List ℕ)) (front rest : List ℕ) → IsTraceOf h mid front → IsInputOf k new session (front ++ rest) →
    (h ≡ k) × GoesOnWith h.grain mid rest new session
goes_on_with h k mid new session front rest ours theirs = go (fronts theirs.text front (behind_trace session) rest (sym theirs.all))
  where
    go : Fronts theirs.text front → (h ≡ k) × GoesOnWith h.grain mid rest new session
    go (inl longer) =
        let on = goes_on h k mid new front longer.0 ours (subst (IsTraceOf k new) longer.1 theirs.trace) in (
          on.0,
          record {
            more = longer.0;
            on = on.1;
            all =
                append_cancel_left front rest (longer.0 ++ behind_trace session)
                (theirs.all ∙ ap (λ (t : List ℕ). t ++ behind_trace session) longer.1 ∙ append_assoc front longer.0 (behind_trace session));
          },
        )
    go (inr shorter) =
        let on = goes_on k h new mid theirs.text shorter.0 theirs.trace (subst (IsTraceOf h mid) shorter.1 ours) in
        let all : behind_trace session ≡ shorter.0 ++ rest =
        append_cancel_left theirs.text (behind_trace session) (shorter.0 ++ rest)
        (sym theirs.all ∙ ap (λ (t : List ℕ). t ++ rest) shorter.1 ∙ append_assoc theirs.text shorter.0 rest) in
        let none = none_before k.grain new mid session shorter.0 rest on.1 all in (
          sym on.0,
          record {
            more = [];
            on = record { texts = []; told = sym none.1; text = refl };
            all = sym (all ∙ ap (λ (t : List ℕ). t ++ rest) none.0);
          },
        )

same_session : (session also : Option (List ℕ)) → behind_trace session ≡ behind_trace also → session ≡ also
same_session None None e = refl
same_session None (Some also) e = absurd cc
same_session (Some session) None e = absurd cc
same_session (Some session) (Some also) e = ap Some (append_cancel_left session_line session also e)

-- the history and the session of an input are one
pub one_input :
    (h k : Header) (old new : HistoryState) (session also : Option (List ℕ)) (bytes : List ℕ) → IsInputOf h old session bytes → IsInputOf k new also bytes →
    (h ≡ k) × (old ≡ new) × (session ≡ also)
one_input h k old new session also bytes ours theirs =
    let on = goes_on_with h k old new also ours.text (behind_trace session) ours.trace (subst (IsInputOf k new also) ours.all theirs) in
    let none = none_before h.grain old new session on.1.more (behind_trace also) on.1.on on.1.all in
    (on.0, sym none.1, same_session session also (on.1.all ∙ ap (λ (t : List ℕ). t ++ behind_trace also) none.0))

-- a trace alone, and one with a session
pub input_alone : (header : Header) (history : HistoryState) (bytes : List ℕ) → IsTraceOf header history bytes → IsInputOf header history None bytes
input_alone header history bytes trace = record { text = bytes; trace = trace; all = sym (append-nil bytes) }

pub input_with : (header : Header) (history : HistoryState) (text session : List ℕ) → IsTraceOf header history text → IsInputOf header history (Some session) (text ++ (session_line ++ session))
input_with header history text session trace = record { text = text; trace = trace; all = refl }

-- ---- what may stand behind some entries

-- one more, or the line of a session
abbrev pub IsPart : GrainSize → ℕ → List ℕ → Type 0
IsPart size number text = IsEntryText size number text ⊎ IsSessionLine text

-- what isn't empty begins with such a text
pub record BeginsText (IsText : List ℕ → Type 0) (bytes : List ℕ) : Type 0 where
  pub text : List ℕ
  pub more : List ℕ
  pub is : IsText text
  pub split : bytes ≡ text ++ more

pub begins_part : (size : GrainSize) (old new : HistoryState) (session : Option (List ℕ)) (bytes : List ℕ) → GoesOnWith size old bytes new session → (bytes ≡ [] → ⊥) →
    BeginsText (IsPart size (length old.entries)) bytes
begins_part size old new session bytes on some = go on.on.texts on.on.told on.on.text
  where
    line : (behind : Option (List ℕ)) → bytes ≡ behind_trace behind → BeginsText (IsPart size (length old.entries)) bytes
    line None e = absurd (some e)
    line (Some rest) e = record { text = session_line; more = rest; is = inr refl; split = e }

    go : (texts : List (List ℕ)) → AreNextTexts size old texts new → on.more ≡ concat texts → BeginsText (IsPart size (length old.entries)) bytes
    go [] told e = line session (on.all ∙ ap (λ (t : List ℕ). t ++ behind_trace session) e)
    go (text ∷ texts) told e = record {
      text = text;
      more = concat texts ++ behind_trace session;
      is = inl (text_of_next size old told.0 text told.1);
      split = on.all ∙ ap (λ (t : List ℕ). t ++ behind_trace session) e ∙ append_assoc text (concat texts) (behind_trace session);
    }
