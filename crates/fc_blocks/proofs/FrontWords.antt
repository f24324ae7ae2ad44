-- The first word of a line: blanks before it are passed over.
use Rattle.std.proofs.Common.{◌≡◌, ℕ, ◌+◌, ◌<◌, ◌≤◌, Bool, true, false, not, cond, List, [], ◌∷◌, length, get_or, suc, drop, Some, None, refl, sym, ap, ◌∙◌, arith, drop-cons}
use Rattle.std.specs.List.{position, position_or_len}
use Rattle.std.proofs.Math.ListN.{drop_of_length-le}
use Rattle.std.proofs.lemmas.List.Quantifiers.{position-Some}
use Rattle.std.proofs.lemmas.Bool.Decides.{nat_tests}
use Rattle.fc_words.proofs.WordLemmas.{words_of-blank}
use Rattle.fc_words.specs.Words.{is_blank, starts_blank, words_of}

abbrev pub is_letter : ℕ → Bool
is_letter byte = not (is_blank byte)

blank_passed : (byte : ℕ) (line : List ℕ) (n : ℕ) → is_blank byte ≡ true → words_of (drop n line) ≡ words_of line → words_of (drop (1 + n) (byte ∷ line)) ≡ words_of (byte ∷ line)
blank_passed byte line n blank rest =
    let e : 1 + n ≡ suc n = omega arith in
    rw e (rest ∙ sym (words_of-blank byte line blank))

byte_passed : (byte : ℕ) (line : List ℕ) (n : ℕ) (b : Bool) → is_blank byte ≡ b → words_of (drop n line) ≡ words_of line → words_of (drop (cond (not (not b)) (1 + n) 0) (byte ∷ line)) ≡ words_of (byte ∷ line)
byte_passed byte line n true blank rest = blank_passed byte line n blank rest
byte_passed byte line n false blank rest = refl

blanks_passed : (line : List ℕ) → words_of (drop (position_or_len is_letter line) line) ≡ words_of line
blanks_passed [] = refl
blanks_passed (byte ∷ line) = byte_passed byte line (position_or_len is_letter line) (is_blank byte) refl (blanks_passed line)

position_is : (line : List ℕ) (start : ℕ) → position is_letter line ≡ Some start → position_or_len is_letter line ≡ start
position_is line start e = grind (arith, nat_tests)

position_none : (line : List ℕ) → position is_letter line ≡ None → length line ≤ position_or_len is_letter line
position_none line e = grind (arith, nat_tests)

not_true : (b : Bool) → not b ≡ true → b ≡ false
not_true true e = sym e
not_true false e = refl

-- the words are those from the first word on
pub words_of-start : (line : List ℕ) (start : ℕ) → position is_letter line ≡ Some start → words_of (drop start line) ≡ words_of line
words_of-start line start e = ap (λ k. words_of (drop k line)) (sym (position_is line start e)) ∙ blanks_passed line

-- where no blank stands in front
pub starts_blank-start : (line : List ℕ) (start : ℕ) → position is_letter line ≡ Some start → starts_blank (drop start line) ≡ false
starts_blank-start line start e =
    let at = position-Some is_letter line start 0 e in
    ap starts_blank (drop-cons line start 0 at.0) ∙ not_true (is_blank (get_or line start 0)) at.1

-- and it is inside the line
pub start_inside : (line : List ℕ) (start : ℕ) → position is_letter line ≡ Some start → start < length line
start_inside line start e = (position-Some is_letter line start 0 e).0

-- a line of blanks has no words
pub words_of-none : (line : List ℕ) → position is_letter line ≡ None → words_of line ≡ []
words_of-none line e =
    sym (blanks_passed line) ∙ ap words_of (drop_of_length-le line (position_none line e))
