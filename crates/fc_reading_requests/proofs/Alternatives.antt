-- What one of the first words begins: its reader is exact, and the word with what is behind it is the line.
use Rattle.std.proofs.Common.{◌≡◌, ℕ, List, [], ◌∷◌, ◌++◌, length, drop, Result, refl, sym, ap, subst, ◌∙◌}
use Rattle.fc_reading.specs.Readers.{map_read}
use Rattle.fc_reading_requests.specs.Asked.{IsAsked, asked_line}
use Rattle.fc_reading_requests.specs.Parts.{said}
use Rattle.fc_reading_requests.specs.declared.asked.Asked.{Asked}
use Rattle.fc_reading.proofs.Exact.{Exact}
use Rattle.fc_reading.proofs.Words.{nothing}
use Rattle.fc_reading_notes.proofs.Choices.{Is}
use Rattle.fc_reading_notes.proofs.Effects.{Exact-image, Image}
use Rattle.fc_reading_requests.proofs.Exactness.{Exact-said}

-- what is behind the word in the line
abbrev pub behind_text : List ℕ → Asked → List ℕ
behind_text word asked = drop (length word) (asked_line asked)

pub record Alternative (word : List ℕ) (read : List ℕ → Result (Asked × List ℕ) ℕ) (Fits : Asked → Type 0) : Type 0 where
  pub exact : Exact Fits (behind_text word) nothing read
  pub line : (asked : Asked) → Fits asked → asked_line asked ≡ word ++ behind_text word asked
  pub asks : (asked : Asked) → Fits asked → IsAsked asked
  pub some : (asked : Asked) × Fits asked

drop_word : (word rest : List ℕ) → drop (length word) (word ++ rest) ≡ rest
drop_word [] rest = refl
drop_word (byte ∷ word) rest = drop_word word rest

whole : (word rest line : List ℕ) → line ≡ word ++ rest → line ≡ word ++ drop (length word) line
whole word rest line is =
    is ∙ ap (λ t. word ++ t) (sym (drop_word word rest)) ∙ ap (λ t. word ++ drop (length word) t) (sym is)

-- made of what is read behind the word
pub made :
    {V : Type 0} (word : List ℕ) (FitsV : V → Type 0) (text : V → List ℕ) (read : List ℕ → Result (V × List ℕ) ℕ) (make : V → Asked) →
    Exact FitsV text nothing read →
    ((v : V) → FitsV v → asked_line (make v) ≡ word ++ text v) →
    ((v : V) → FitsV v → IsAsked (make v)) →
    (v : V) → FitsV v →
    Alternative word (map_read make read) (Image FitsV make)
made {V} word FitsV text read make exact line asks v some = record {
  exact =
      Exact-image FitsV text nothing read (behind_text word) make exact
      (λ x fits. ap (drop (length word)) (line x fits) ∙ drop_word word (text x));
  line =
      λ asked image.
      subst (λ (a : Asked). asked_line a ≡ word ++ behind_text word a) image.2
      (whole word (text image.0) (asked_line (make image.0)) (line image.0 image.1));
  asks = λ asked image. subst IsAsked image.2 (asks image.0 image.1);
  some = (make v, (v, some, refl));
}

-- the word alone
pub alone_said :
    (word : List ℕ) (value : Asked) → asked_line value ≡ word ++ [] → IsAsked value →
    Alternative word (said value) (Is value)
alone_said word value line asks = record {
  exact =
      Exact-said value (Is value) (behind_text word) refl (ap (drop (length word)) line ∙ drop_word word []) (λ a is. is);
  line = λ asked is. subst (λ (a : Asked). asked_line a ≡ word ++ behind_text word a) (sym is) (whole word [] (asked_line value) line);
  asks = λ asked is. subst IsAsked (sym is) asks;
  some = (value, refl);
}
