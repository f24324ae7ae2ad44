-- Words joined by spaces part into the same words.
use Rattle.std.proofs.Common.{◌≡◌, ℕ, ◌*◌, ◌^◌, ◌<◌, ◌≤◌, Bool, true, false, ◌&&◌, not, nat_le, List, [], ◌∷◌, length, length-append, decimal, ◌/◌, ◌%◌, refl, ap, ◌∙◌, arith, lit<}
use Rattle.std.specs.Char.{is_digit}
use Rattle.std.specs.List.{All, filter, join_with_byte, list_all, slice_split}
use Rattle.std.proofs.lemmas.Bool.{false≢true, le-leb, leb-true}
use Rattle.std.proofs.lemmas.Bool.Decides.{nat_tests}
use Rattle.std.proofs.lemmas.Fmt.{decimal_is_IsNumeral, length-decimal-le}
use Rattle.std.proofs.lemmas.List.Splits.{slice_split_none, slice_split_at}
use Rattle.std.proofs.lemmas.List.Sums.{AllPass-from_list_all}
use Rattle.fc_base.specs.CommandText.{byte_word, ref_word}
use Rattle.fc_base.specs.Names.{starts_name, continues_name, is_name}
use Rattle.fc_base.specs.declared.name.Ref.{Ref}
use Rattle.fc_base.specs.declared.name.Ref.TheVariants.{Id, Name}
use Rattle.fc_words.specs.Canonical.{IsObject}
use Rattle.fc_words.specs.Words.{is_blank, is_empty, words_of}
use Rattle.fc_words.proofs.ValueLemmas.{both, list_all-weaker, number-all, digit-no_blank, name-no_blank, glyph-no_blank, printable-no_blank}

-- a byte of a word
abbrev pub is_letter : ℕ → Bool
is_letter byte = not (is_blank byte)

-- a word that may stand in a line: not empty, without blanks, and not long
abbrev pub is_word : List ℕ → Bool
is_word word = not (is_empty word) && (list_all is_letter word && nat_le (length word) 63)

not-true : (b : Bool) → not b ≡ true → b ≡ false
not-true true h = absurd (false≢true h)
not-true false h = refl

no_blanks : (word : List ℕ) → is_word word ≡ true → All (λ b. is_blank b ≡ false) word
no_blanks word good =
    let letters = (both (list_all is_letter word) (nat_le (length word) 63) (both (not (is_empty word)) (list_all is_letter word && nat_le (length word) 63) good).1).0 in
    let all = AllPass-from_list_all is_letter word letters in
    λ k d here. not-true _ (all k d here)

-- the words of parts
abbrev words_in : List (List ℕ) → List (List ℕ)
words_in parts = filter (λ part. not (is_empty part)) parts

words_in-word : (word : List ℕ) (parts : List (List ℕ)) → is_word word ≡ true → words_in (word ∷ parts) ≡ word ∷ words_in parts
words_in-word [] parts good = absurd (false≢true good)
words_in-word (b ∷ word) parts good = refl

pub words_of-join : (words : List (List ℕ)) → list_all is_word words ≡ true → words_of (join_with_byte 32 words) ≡ words
words_of-join [] all = refl
words_of-join (word ∷ []) all =
    let good = (both (is_word word) true all).0 in
    ap words_in (slice_split_none is_blank word (no_blanks word good)) ∙ words_in-word word [] good
words_of-join (word ∷ next ∷ words) all =
    let parts = both (is_word word) (list_all is_word (next ∷ words)) all in
    ap words_in (slice_split_at is_blank word 32 (join_with_byte 32 (next ∷ words)) (no_blanks word parts.0) refl)
    ∙ (words_in-word word (slice_split is_blank (join_with_byte 32 (next ∷ words))) parts.0 ∙ ap (λ rest. word ∷ rest) (words_of-join (next ∷ words) parts.1))

-- joined words are no longer than so
short : (word : List ℕ) → is_word word ≡ true → length word ≤ 63
short word good =
    let fits = (both (list_all is_letter word) (nat_le (length word) 63) (both (not (is_empty word)) (list_all is_letter word && nat_le (length word) 63) good).1).1 in
    grind (arith, nat_tests)

pub length-join : (words : List (List ℕ)) → list_all is_word words ≡ true → length (join_with_byte 32 words) ≤ 64 * length words
length-join [] all = omega arith
length-join (word ∷ []) all = omega (arith, short word (both (is_word word) true all).0)
length-join (word ∷ next ∷ words) all =
    let parts = both (is_word word) (list_all is_word (next ∷ words)) all in
    let rest = length-join (next ∷ words) parts.1 in
    omega (arith, short word parts.0, length-append word (32 ∷ join_with_byte 32 (next ∷ words)))

-- the words of values may stand in a line
word-of : (word : List ℕ) → 0 < length word → list_all is_letter word ≡ true → length word ≤ 63 → is_word word ≡ true
word-of [] some letters fits = absurd (omega arith)
word-of (b ∷ word) some letters fits = rw (letters, le-leb (length (b ∷ word)) 63 fits) refl

digit-letter : (b : ℕ) → is_digit b 10 ≡ true → is_letter b ≡ true
digit-letter b h = rw (digit-no_blank b h) refl

continues-letter : (b : ℕ) → continues_name b ≡ true → is_letter b ≡ true
continues-letter b h = rw (name-no_blank b h) refl

starts-continues : (b : ℕ) → starts_name b ≡ true → continues_name b ≡ true
starts-continues b h = rw h refl

pub is_word-decimal : (n : ℕ) → n < 2 ^ 32 → is_word (decimal n) ≡ true
is_word-decimal n small =
    word-of (decimal n) (decimal_is_IsNumeral n (omega arith)).0.0
    (list_all-weaker (λ b. is_digit b 10) is_letter digit-letter (decimal n) (number-all n small))
    (omega (arith, length-decimal-le 10 n (lit< tt) (omega arith) (omega arith)))

pub is_word-name : (name : List ℕ) → is_name name ≡ true → is_word name ≡ true
is_word-name [] good = absurd (false≢true good)
is_word-name (b ∷ name) good =
    let fits = (both (nat_le (length name) 62) (starts_name b && list_all continues_name name) good).0 in
    let bytes = both (starts_name b) (list_all continues_name name) (both (nat_le (length name) 62) (starts_name b && list_all continues_name name) good).1 in
    let letters : list_all is_letter (b ∷ name) ≡ true =
    rw (continues-letter b (starts-continues b bytes.0)) (list_all-weaker continues_name is_letter continues-letter name bytes.1) in
    word-of (b ∷ name) (omega arith) letters (omega (arith, leb-true (length name) 62 fits))

pub is_word-ref : (ref : Ref) → IsObject ref → is_word (ref_word ref) ≡ true
is_word-ref (Id id) good = is_word-decimal id good
is_word-ref (Name name) good = is_word-name name good

pub is_word-byte : (byte : ℕ) → byte < 256 → is_word (byte_word byte) ≡ true
is_word-byte byte small =
    rw (glyph-no_blank (byte / 16) (omega arith), glyph-no_blank (byte % 16) (omega arith)) refl

pub is_word-delim : (delim : ℕ) → 33 ≤ delim → is_word (delim ∷ []) ≡ true
is_word-delim delim low = rw (printable-no_blank delim low) refl
