-- A word byte by byte, and some words one after the other.
use Rattle.std.proofs.Common.{◌≡◌, ℕ, suc, ◌+◌, ◌-◌, ◌<◌, ◌≤◌, false, eqb, List, [], ◌∷◌, length, drop, drop-cons, get_or, min, Result, Ok, Err, refl, ap, ◌∙◌, arith}
use Rattle.std.proofs.lemmas.Bool.{eq-eqb}
use Rattle.std.proofs.lemmas.List.{at_drop_all, length-drop}
use Rattle.fc_reading.specs.Readers.{either, one_of_at, word_at}
use Rattle.fc_reading.proofs.Exact.{refused_at}
use Rattle.fc_reading.proofs.Words.{at_false, at_true, one_of-within}

one_more : (j : ℕ) → suc j ≡ j + 1
one_more j = omega arith

pub drop-one : {A : Type 0} (l : List A) (j : ℕ) (d : A) → j < length l → drop j l ≡ get_or l j d ∷ drop (j + 1) l
drop-one l j d inside = drop-cons l j d inside ∙ ap (λ n. get_or l j d ∷ drop n l) (one_more j)

-- ---- a word

-- one more byte of the word stands there
pub word-more :
    (word bytes : List ℕ) (place : ℕ) →
    place < length word →
    place < length bytes →
    get_or word place 0 ≡ get_or bytes place 0 →
    word_at (drop place word) (drop place bytes) ≡ word_at (drop (place + 1) word) (drop (place + 1) bytes)
word-more word bytes place inside has same =
    ap (λ w. word_at w (drop place bytes)) (drop-one word place 0 inside)
    ∙ ap (word_at (get_or word place 0 ∷ drop (place + 1) word)) (drop-one bytes place 0 has)
    ∙ at_true (eqb (get_or word place 0) (get_or bytes place 0)) (word_at (drop (place + 1) word) (drop (place + 1) bytes))
    (Err (suc (length (drop (place + 1) bytes)))) (eq-eqb (get_or word place 0) (get_or bytes place 0) same)

-- another byte stands there
pub word-other :
    (word bytes : List ℕ) (place : ℕ) →
    place < length word →
    place < length bytes →
    eqb (get_or word place 0) (get_or bytes place 0) ≡ false →
    word_at (drop place word) (drop place bytes) ≡ Err (length bytes - place)
word-other word bytes place inside has other =
    ap (λ w. word_at w (drop place bytes)) (drop-one word place 0 inside)
    ∙ ap (word_at (get_or word place 0 ∷ drop (place + 1) word)) (drop-one bytes place 0 has)
    ∙ at_false (eqb (get_or word place 0) (get_or bytes place 0)) (word_at (drop (place + 1) word) (drop (place + 1) bytes))
    (Err (suc (length (drop (place + 1) bytes)))) other
    ∙ refused_at (suc (length (drop (place + 1) bytes))) (length bytes - place) (omega (arith, length-drop (place + 1) bytes, has))

-- the bytes end there
pub word-short : (word bytes : List ℕ) (place : ℕ) → place < length word → length bytes ≤ place → word_at (drop place word) (drop place bytes) ≡ Err 0
word-short word bytes place inside ends =
    at_drop_all (word_at (drop place word)) bytes place ends ∙ ap (λ w. word_at w []) (drop-one word place 0 inside)

-- the whole word stands there
pub word-done : (word bytes : List ℕ) (place : ℕ) → length word ≤ place → word_at (drop place word) bytes ≡ Ok bytes
word-done word bytes place past = at_drop_all (λ w. word_at w bytes) word place past

-- ---- one of some words

-- what some words answer behind others, of which none stands there
abbrev pub behind : ℕ → ℕ → Result (ℕ × List ℕ) ℕ → Result (ℕ × List ℕ) ℕ
behind count left (Ok found) = Ok (count + found.0, found.1)
behind count left (Err other) = Err (min left other)

plus_zero : (i : ℕ) → i + 0 ≡ i
plus_zero i = omega arith

plus_suc : (i k : ℕ) → i + suc k ≡ i + 1 + k
plus_suc i k = omega arith

zero_plus : (i : ℕ) → i ≡ 0 + i
zero_plus i = omega arith

-- this word stands there
pub behind-found :
    (words : List (List ℕ)) (bytes rest : List ℕ) (index left : ℕ) →
    index < length words →
    word_at (get_or words index []) bytes ≡ Ok rest →
    behind index left (one_of_at (drop index words) bytes) ≡ Ok (index, rest)
behind-found words bytes rest index left inside found =
    ap (λ ws. behind index left (one_of_at ws bytes)) (drop-one words index [] inside)
    ∙ ap (λ r. behind index left (either r (one_of_at (drop (index + 1) words) bytes))) found
    ∙ ap (λ i. Ok (i, rest)) (plus_zero index)

either_behind : (r : Result (ℕ × List ℕ) ℕ) (index left n : ℕ) → behind index left (either (Err n) r) ≡ behind (index + 1) (min left n) r
either_behind (Ok found) index left n = ap (λ i. Ok (i, found.1)) (plus_suc index found.0)
either_behind (Err other) index left n = refused_at (min left (min n other)) (min (min left n) other) (omega arith)

-- it doesn't
pub behind-next :
    (words : List (List ℕ)) (bytes : List ℕ) (index left n : ℕ) →
    index < length words →
    word_at (get_or words index []) bytes ≡ Err n →
    behind index left (one_of_at (drop index words) bytes) ≡ behind (index + 1) (min left n) (one_of_at (drop (index + 1) words) bytes)
behind-next words bytes index left n inside none =
    ap (λ ws. behind index left (one_of_at ws bytes)) (drop-one words index [] inside)
    ∙ ap (λ r. behind index left (either r (one_of_at (drop (index + 1) words) bytes))) none
    ∙ either_behind (one_of_at (drop (index + 1) words) bytes) index left n

-- there is no other word
pub behind-end :
    (words : List (List ℕ)) (bytes : List ℕ) (index left : ℕ) →
    length words ≤ index →
    left ≤ length bytes →
    behind index left (one_of_at (drop index words) bytes) ≡ Err left
behind-end words bytes index left past within =
    at_drop_all (λ ws. behind index left (one_of_at ws bytes)) words index past
    ∙ refused_at (min left (length bytes)) left (omega (arith, within))

start_same : (bytes : List ℕ) (r : Result (ℕ × List ℕ) ℕ) → ((n : ℕ) → r ≡ Err n → n ≤ length bytes) → r ≡ behind 0 (length bytes) r
start_same bytes (Ok found) small = ap (λ i. Ok (i, found.1)) (zero_plus found.0)
start_same bytes (Err n) small = refused_at n (min (length bytes) n) (omega (arith, small n refl))

-- before the first word
pub behind-start : (words : List (List ℕ)) (bytes : List ℕ) → one_of_at words bytes ≡ behind 0 (length bytes) (one_of_at words bytes)
behind-start words bytes = start_same bytes (one_of_at words bytes) (λ n is. one_of-within words bytes n is)
