-- Lists, read from the left. What an item may be goes by a state, which each item moves on.
use Rattle.std.specs.Prelude.{ℕ, zero, suc, ◌==◌, Bool, true, false, if◌then◌else◌, List, [], ◌∷◌, ◌++◌, length, Result, Ok, Err}
use Rattle.fc_reading.specs.Readers.{◌>>=◌}

-- an item alone, or with the others behind it
abbrev pub and_more : {V : Type 0} → V → Bool → (List ℕ → Result (List V × List ℕ) ℕ) → List ℕ → Result (List V × List ℕ) ℕ
and_more value true others bytes = others bytes >>= (λ y. Ok (value ∷ y.0, y.1))
and_more value false others bytes = Ok (value ∷ [], bytes)

-- items, no more than so many: each says whether one more follows
abbrev pub chain_at : {S V : Type 0} → (S → List ℕ → Result ((V × Bool) × List ℕ) ℕ) → (S → V → S) → ℕ → S → List ℕ → Result (List V × List ℕ) ℕ
chain_at item next zero state bytes = Err (length bytes)
chain_at item next (suc most) state bytes =
    item state bytes >>= (λ x. and_more x.0.0 x.0.1 (chain_at item next most (next state x.0.0)) x.1)

-- all of them: an item has a byte at least
abbrev pub chain : {S V : Type 0} → (S → List ℕ → Result ((V × Bool) × List ℕ) ℕ) → (S → V → S) → S → List ℕ → Result (List V × List ℕ) ℕ
chain item next state bytes = chain_at item next (length bytes) state bytes

-- whether a byte of this kind comes first
abbrev pub first_byte_is : (ℕ → Bool) → List ℕ → Bool
first_byte_is test [] = false
first_byte_is test (byte ∷ bytes) = test byte

-- whether this byte comes first
abbrev pub starts_with : ℕ → List ℕ → Bool
starts_with first = first_byte_is (λ byte. byte == first)

-- items, no more than so many, as long as this byte comes first
abbrev pub while_at : {S V : Type 0} → ℕ → (S → List ℕ → Result (V × List ℕ) ℕ) → (S → V → S) → ℕ → S → List ℕ → Result (List V × List ℕ) ℕ
while_at first item next zero state bytes = if starts_with first bytes then Err (length bytes) else Ok ([], bytes)
while_at first item next (suc most) state bytes =
    if starts_with first bytes
    then item state bytes >>= (λ x. and_more x.0 true (while_at first item next most (next state x.0)) x.1)
    else Ok ([], bytes)

-- all of them
abbrev pub while_first : {S V : Type 0} → ℕ → (S → List ℕ → Result (V × List ℕ) ℕ) → (S → V → S) → S → List ℕ → Result (List V × List ℕ) ℕ
while_first first item next state bytes = while_at first item next (length bytes) state bytes

-- one of two readings, by whether a byte of this kind comes first
abbrev pub choice : {V : Type 0} → (ℕ → Bool) → (List ℕ → Result (V × List ℕ) ℕ) → (List ℕ → Result (V × List ℕ) ℕ) → List ℕ → Result (V × List ℕ) ℕ
choice test here other bytes = if first_byte_is test bytes then here bytes else other bytes

-- the same by whether this byte comes first
abbrev pub by_first : {V : Type 0} → ℕ → (List ℕ → Result (V × List ℕ) ℕ) → (List ℕ → Result (V × List ℕ) ℕ) → List ℕ → Result (V × List ℕ) ℕ
by_first first = choice (λ byte. byte == first)

-- what is read behind these items
abbrev pub behind_items : {V : Type 0} → List V → Result (List V × List ℕ) ℕ → Result (List V × List ℕ) ℕ
behind_items found read = read >>= (λ y. Ok (found ++ y.0, y.1))
