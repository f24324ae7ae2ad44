-- What is read. A reader takes a value off the front of the bytes that are left, or tells the place of the first field that isn't
-- of the format.
use Rattle.std.specs.Prelude.{◌≡◌, ℕ, zero, suc, ◌+◌, ◌-◌, Vec, ◌&&◌, nat_le, if◌then◌else◌, List, [], ◌∷◌, length, take, drop, Option, Some, None, Result, Ok, Err, ⊤}
use Rattle.std.specs.Option.{option_and_then}
use Rattle.byteorder.specs.Endian.{big_number}
use Rattle.fc_base.specs.Names.{is_name}
use Rattle.fc_format.specs.declared.cursor.ReadError.{ReadError}
use Rattle.fc_format.specs.declared.cursor.ReadError.TheVariants.{Damaged, NoMemory}
use Rattle.fc_format.specs.Left.{Left, place, passed, first_byte, has_none}

-- A value and what is left behind it; or the place of the first field that doesn't continue the format.
pub data Reading (A : Type 0) : Type 0 where
  Got : A → Left → Reading A
  Bad : ℕ → Reading A

abbrev pub Reader : Type 0 → Type 0
Reader A = Left → Reading A

-- one reader, and then another by what the first read
abbrev pub and_then : {A B : Type 0} → Reading A → (A → Reader B) → Reading B
and_then (Got a left) next = next a left
and_then (Bad at) next = Bad at

infixl 10 ◌>>=◌
abbrev pub ◌>>=◌ : {A B : Type 0} → Reader A → (A → Reader B) → Reader B
first >>= next = λ left. and_then (first left) next

-- the values of two readers, one after the other
abbrev pub both : {A B : Type 0} → Reader A → Reader B → Reader (A × B)
both first second = first >>= (λ a. second >>= (λ b. Got (a, b)))

-- What a call that reads answers and leaves. Want of memory alone is free.
abbrev pub IsRead : {A : Type 0} → Reading A → Result A ReadError → Left → Type 0
IsRead reading (Ok a) left = reading ≡ Got a left
IsRead reading (Err (Damaged at)) left = reading ≡ Bad at
IsRead reading (Err NoMemory) left = ⊤

-- the items of a vector that was read
abbrev pub items_read : {A Z : Type 0} → Result (Vec A Z) ReadError → Result (List A) ReadError
items_read (Ok all) = Ok all.items
items_read (Err error) = Err error

-- ---- Readers

-- a number of k bytes
unfoldable pub number : ℕ → Reader ℕ
number k s = if nat_le k (length s.bytes) then Got (big_number k s.bytes) (passed k s) else Bad (place s)

-- a byte that is one of some codes
abbrev pub chosen : {A : Type 0} → Option A → Reader A
chosen (Some a) s = Got a (passed 1 s)
chosen None s = Bad (place s)

unfoldable pub choice : {A : Type 0} → (ℕ → Option A) → Reader A
choice meaning s = chosen (option_and_then meaning (first_byte s.bytes)) s

-- a name behind its length
abbrev pub named : Option ℕ → Reader (List ℕ)
named None s = Bad (place s)
named (Some n) s =
    if nat_le n (length (drop 1 s.bytes)) && is_name (take n (drop 1 s.bytes)) then Got (take n (drop 1 s.bytes)) (passed (1 + n) s)
    else Bad (place s)

unfoldable pub name : Reader (List ℕ)
name s = named (first_byte s.bytes) s

-- so many values, one after the other
unfoldable pub items : {A : Type 0} → Reader A → ℕ → Reader (List A)
items reader zero s = Got [] s
items reader (suc n) s = and_then (reader s) (λ x s. and_then (items reader n s) (λ xs s. Got (x ∷ xs) s))

-- a list behind its count
unfoldable pub list : {A : Type 0} → Reader A → Reader (List A)
list reader s = and_then (number 4 s) (λ n s. items reader n s)

-- values until the bytes end; no value takes no byte, so that as many are enough as there are bytes
unfoldable pub all_items : {A : Type 0} → Reader A → ℕ → Reader (List A)
all_items reader zero s = if has_none s.bytes then Got [] s else Bad (place s)
all_items reader (suc n) s =
    if has_none s.bytes then Got [] s else and_then (reader s) (λ x s. and_then (all_items reader n s) (λ xs s. Got (x ∷ xs) s))

-- A part that a length of 4 bytes counts, and what is left behind it.
pub record Part : Type 0 where
  pub front : Left
  pub behind : Left

-- the part behind a length; none where the bytes are fewer
abbrev pub part_of : Left → Option Part
part_of s =
    if nat_le 4 (length s.bytes) && nat_le (big_number 4 s.bytes) (length (drop 4 s.bytes)) then Some (record {
      front = record { bytes = take (big_number 4 s.bytes) (drop 4 s.bytes); end = s.end - length (drop (4 + big_number 4 s.bytes) s.bytes) };
      behind = passed (4 + big_number 4 s.bytes) s;
    }) else None

-- What a reader made of a part, of which it has to leave no byte.
abbrev pub whole : {A : Type 0} → Reading A → Left → Reading A
whole (Got a part) behind = if has_none part.bytes then Got a behind else Bad (place part)
whole (Bad at) behind = Bad at

-- a length, and the reader on so many bytes; a length that passes the bytes doesn't continue the format itself
abbrev pub in_part : {A : Type 0} → Reader A → ℕ → Option Part → Reading A
in_part reader at (Some part) = whole (reader part.front) part.behind
in_part reader at None = Bad at

-- what is left behind a part; where there is none, all that was left
abbrev pub IfPart : Option Part → Left → Left → Type 0
IfPart (Some part) old new = new ≡ part.behind
IfPart None old new = new ≡ old

unfoldable pub counted : {A : Type 0} → Reader A → Reader A
counted reader s = in_part reader (place s) (part_of s)
