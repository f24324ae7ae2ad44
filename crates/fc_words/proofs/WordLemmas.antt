-- Words of a line, from its front.
use Rattle.std.proofs.Common.{◌≡◌, ◌≢◌, ℕ, ◌+◌, ◌<◌, ◌≤◌, Bool, true, false, not, List, [], ◌∷◌, length, get_or, suc, zero, take, drop, Some, None, refl, sym, ap, subst, add-one, drop-cons, ◌∙◌, arith}
use Rattle.std.specs.List.{All, slice_split, position, position_or_len, filter}
use Rattle.std.proofs.lemmas.List.Splits.{slice_split_none, slice_split_first, length-slice_split}
use Rattle.std.proofs.lemmas.List.Quantifiers.{position-Some}
use Rattle.std.proofs.lemmas.List.Sums.{fails_before_first, length-filter, count_by-le-length}
use Rattle.std.proofs.lemmas.Bool.{false≢true}
use Rattle.std.proofs.lemmas.Bool.Decides.{nat_tests}
use Rattle.fc_words.specs.Words.{is_blank, is_empty, starts_blank, words_of}

-- a blank in front is passed over
pub words_of-blank : (byte : ℕ) (line : List ℕ) → is_blank byte ≡ true → words_of (byte ∷ line) ≡ words_of line
words_of-blank byte line blank = rw blank refl

-- where a position is told, it is the first, and within the list
position_is : {X : Type 0} (p : X → Bool) (xs : List X) (i : ℕ) → position p xs ≡ Some i → (position_or_len p xs ≡ i) × (i < length xs)
position_is p xs i h = grind (arith, nat_tests)

position_none : {X : Type 0} (p : X → Bool) (xs : List X) → position p xs ≡ None → length xs ≤ position_or_len p xs
position_none p xs h = grind (arith, nat_tests)

-- where none is found, no byte is a blank
no_blank : (line : List ℕ) → position is_blank line ≡ None → All (λ b. is_blank b ≡ false) line
no_blank line none =
    let all = position_none is_blank line none in
    λ k d here. fails_before_first is_blank line k d (omega arith)

-- a line without blanks is one word
pub words_of-whole : (line : List ℕ) → length line ≢ 0 → position is_blank line ≡ None → words_of line ≡ line ∷ []
words_of-whole [] some none = absurd (some refl)
words_of-whole (byte ∷ line) some none =
    ap (λ parts. filter (λ part. not (is_empty part)) parts) (slice_split_none is_blank (byte ∷ line) (no_blank (byte ∷ line) none))

words_of-cut : (byte : ℕ) (line rest : List ℕ) (k : ℕ) → slice_split is_blank (byte ∷ line) ≡ take (suc k) (byte ∷ line) ∷ slice_split is_blank rest → words_of (byte ∷ line) ≡ take (suc k) (byte ∷ line) ∷ words_of rest
words_of-cut byte line rest k e = ap (λ parts. filter (λ part. not (is_empty part)) parts) e

-- a first word ends at the first blank
pub words_of-split : (line : List ℕ) (e : ℕ) → starts_blank line ≡ false → position is_blank line ≡ Some e → words_of line ≡ take e line ∷ words_of (drop e line)
words_of-split [] e letter found = absurd (omega (arith, position_is is_blank [] e found))
words_of-split (byte ∷ line) zero letter found =
    absurd (false≢true (sym letter ∙ (position-Some is_blank (byte ∷ line) 0 0 found).1))
words_of-split (byte ∷ line) (suc k) letter found =
    let is = position_is is_blank (byte ∷ line) (suc k) found in
    let at = position-Some is_blank (byte ∷ line) (suc k) 0 found in
    let Cuts : ℕ → Type 0 = λ e. slice_split is_blank (byte ∷ line) ≡ take e (byte ∷ line) ∷ slice_split is_blank (drop (e + 1) (byte ∷ line)) in
    let rest : List ℕ = drop (suc k + 1) (byte ∷ line) in
    let cut = subst Cuts is.0 (slice_split_first is_blank (byte ∷ line) 0 (omega arith)) in
    let behind : words_of (drop (suc k) (byte ∷ line)) ≡ words_of rest =
    rw (drop-cons (byte ∷ line) (suc k) 0 is.1, add-one) (words_of-blank (get_or (byte ∷ line) (suc k) 0) (drop (suc (suc k)) (byte ∷ line)) at.1) in
    words_of-cut byte line rest k cut ∙ ap (λ words. take (suc k) (byte ∷ line) ∷ words) (sym behind)

-- there are no more words than bytes and one
pub length-words_of : (line : List ℕ) → length (words_of line) ≤ length line + 1
length-words_of line =
    omega (arith, length-filter (λ part. not (is_empty part)) (slice_split is_blank line), count_by-le-length (λ part. not (is_empty part)) (slice_split is_blank line), length-slice_split is_blank line, count_by-le-length is_blank line)

-- behind the first word there are fewer
pub length-words_behind : (line word behind : List ℕ) → words_of line ≡ word ∷ words_of behind → length (words_of behind) ≤ length line
length-words_behind line word behind e = omega (arith, length-words_of line, ap length e)
