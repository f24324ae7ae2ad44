-- Reading from the left: each reader takes what it reads from the front of the bytes, and answers it with the bytes behind
-- it; or how many bytes are left from the first one that can't go on what was begun.
use Rattle.std.specs.Prelude.{ℕ, suc, ◌+◌, ◌*◌, ◌-◌, ◌==◌, Bool, ◌&&◌, if◌then◌else◌, min, nat_le, nat_lt, List, [], ◌∷◌, length, Result, Ok, Err}

infixl 10 ◌>>=◌
abbrev pub ◌>>=◌ : {A B : Type 0} → Result A ℕ → (A → Result B ℕ) → Result B ℕ
(Ok x) >>= f = f x
(Err left) >>= f = Err left

-- a word that must stand here
abbrev pub word_at : List ℕ → List ℕ → Result (List ℕ) ℕ
word_at [] bytes = Ok bytes
word_at (letter ∷ word) [] = Err 0
word_at (letter ∷ word) (byte ∷ bytes) = if letter == byte then word_at word bytes else Err (suc (length bytes))

-- the first word's answer, or what the others answer; where none stands here, the one that goes furthest
abbrev pub either : Result (List ℕ) ℕ → Result (ℕ × List ℕ) ℕ → Result (ℕ × List ℕ) ℕ
either (Ok rest) others = Ok (0, rest)
either (Err left) (Ok found) = Ok (suc found.0, found.1)
either (Err left) (Err other) = Err (min left other)

-- one of some words, by its number
abbrev pub one_of_at : List (List ℕ) → List ℕ → Result (ℕ × List ℕ) ℕ
one_of_at [] bytes = Err (length bytes)
one_of_at (word ∷ words) bytes = either (word_at word bytes) (one_of_at words bytes)

-- a decimal digit
abbrev pub is_decimal : ℕ → Bool
is_decimal byte = nat_le 48 byte && nat_le byte 57

-- whether a number may have one more digit: no 0 begins it, and it stays no more than `most`
abbrev pub goes_on : ℕ → ℕ → ℕ → Bool
goes_on most value byte = nat_lt 0 value && nat_le (value * 10 + (byte - 48)) most

-- behind a number, its next digits
abbrev pub number_from : ℕ → ℕ → List ℕ → Result (ℕ × List ℕ) ℕ
number_from most value [] = Ok (value, [])
number_from most value (byte ∷ bytes) =
    if is_decimal byte then (if goes_on most value byte then number_from most (value * 10 + (byte - 48)) bytes else Err (suc (length bytes))) else Ok (value, byte ∷ bytes)

-- a number in decimal, without leading zeros, no more than `most`
abbrev pub number_at : ℕ → List ℕ → Result (ℕ × List ℕ) ℕ
number_at most [] = Err 0
number_at most (byte ∷ bytes) =
    if is_decimal byte && nat_le (byte - 48) most then number_from most (byte - 48) bytes else Err (suc (length bytes))

-- one reading behind the other, which may go by what the first found: both values
abbrev pub then_read : {V W : Type 0} → (List ℕ → Result (V × List ℕ) ℕ) → (V → List ℕ → Result (W × List ℕ) ℕ) → List ℕ → Result ((V × W) × List ℕ) ℕ
then_read first second bytes = first bytes >>= (λ x. second x.0 x.1 >>= (λ y. Ok ((x.0, y.0), y.1)))

-- what is read, by another name
abbrev pub map_read : {V W : Type 0} → (V → W) → (List ℕ → Result (V × List ℕ) ℕ) → List ℕ → Result (W × List ℕ) ℕ
map_read f read bytes = read bytes >>= (λ x. Ok (f x.0, x.1))

-- a word alone, of which nothing is to be known
abbrev pub the_word : List ℕ → List ℕ → Result (Unit {0} × List ℕ) ℕ
the_word word bytes = word_at word bytes >>= (λ rest. Ok (tt, rest))

-- a number, and a word that must stand behind it
abbrev pub field_at : ℕ → List ℕ → List ℕ → Result (ℕ × List ℕ) ℕ
field_at most word = map_read (λ x. x.0) (then_read (number_at most) (λ n. the_word word))

-- four numbers below 2^32, a space between each two, and a word that must stand behind the last
abbrev pub four_at : List ℕ → List ℕ → Result ((ℕ × (ℕ × (ℕ × ℕ))) × List ℕ) ℕ
four_at last =
    then_read (field_at 4294967295 (32 ∷ [])) (λ a. then_read (field_at 4294967295 (32 ∷ [])) (λ b. then_read (field_at 4294967295 (32 ∷ [])) (λ c. field_at 4294967295 last)))
