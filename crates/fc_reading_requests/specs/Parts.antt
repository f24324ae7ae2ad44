-- The parts of requests, read from the left: bytes, names, objects.
use Rattle.std.specs.Prelude.{ℕ, suc, ◌+◌, ◌*◌, ◌==◌, Bool, ◌&&◌, if◌then◌else◌, nat_le, nat_lt, List, [], ◌∷◌, ◌++◌, drop, length, Result, Ok, Err, codes}
use Rattle.fc_base.specs.Names.{continues_name, starts_name}
use Rattle.fc_base.specs.declared.name.Ref.{Ref}
use Rattle.fc_base.specs.declared.name.Ref.TheVariants.{Id, Name}
use Rattle.fc_reading_notes.specs.Lists.{first_byte_is, choice}
use Rattle.fc_reading.specs.Readers.{◌>>=◌, is_decimal, map_read, number_at, one_of_at, the_word, then_read}

-- nothing is read
abbrev pub said : {V : Type 0} → V → List ℕ → Result (V × List ℕ) ℕ
said value bytes = Ok (value, bytes)

-- what is read, where no byte of this kind follows
abbrev pub if_closed : {V : Type 0} → (ℕ → Bool) → V → List ℕ → Result (V × List ℕ) ℕ
if_closed joins value bytes = if first_byte_is joins bytes then Err (length bytes) else Ok (value, bytes)

abbrev pub closed : {V : Type 0} → (ℕ → Bool) → (List ℕ → Result (V × List ℕ) ℕ) → List ℕ → Result (V × List ℕ) ℕ
closed joins read bytes = read bytes >>= (λ x. if_closed joins x.0 x.1)

-- a byte of this kind
abbrev pub byte_of_kind : (ℕ → Bool) → List ℕ → Result (ℕ × List ℕ) ℕ
byte_of_kind test [] = Err 0
byte_of_kind test (byte ∷ bytes) = if test byte then Ok (byte, bytes) else Err (suc (length bytes))

-- a value, and a word that must stand behind it
abbrev pub ended_by : {V : Type 0} → (List ℕ → Result (V × List ℕ) ℕ) → List ℕ → List ℕ → Result (V × List ℕ) ℕ
ended_by read word = map_read (λ x. x.0) (then_read read (λ v. the_word word))

-- one of some words from the first so numbered on, by its number
abbrev pub one_from_at : List (List ℕ) → ℕ → List ℕ → Result (ℕ × List ℕ) ℕ
one_from_at words first = map_read (λ i. i + first) (one_of_at (drop first words))

-- a number of 32 bits
abbrev pub number_32 : List ℕ → Result (ℕ × List ℕ) ℕ
number_32 = number_at 4294967295

-- ---- names and objects

-- behind the bytes of a name, its next ones
abbrev pub name_from : List ℕ → List ℕ → Result (List ℕ × List ℕ) ℕ
name_from name [] = Ok (name, [])
name_from name (byte ∷ bytes) =
    if continues_name byte
    then (if nat_lt (length name) 63 then name_from (name ++ byte ∷ []) bytes else Err (suc (length bytes)))
    else Ok (name, byte ∷ bytes)

-- a name
abbrev pub name_at : List ℕ → Result (List ℕ × List ℕ) ℕ
name_at [] = Err 0
name_at (byte ∷ bytes) = if starts_name byte then name_from (byte ∷ []) bytes else Err (suc (length bytes))

-- an object, by its id or its name
abbrev pub object_at : List ℕ → Result (Ref × List ℕ) ℕ
object_at = choice is_decimal (map_read Id (closed continues_name number_32)) (map_read Name name_at)

-- ---- bytes

-- a hexadecimal digit in lower case
abbrev pub hex_digits : List (List ℕ)
hex_digits =
    codes "0" ∷ codes "1" ∷ codes "2" ∷ codes "3" ∷ codes "4" ∷ codes "5" ∷ codes "6" ∷ codes "7" ∷ codes "8" ∷ codes "9"
    ∷ codes "a" ∷ codes "b" ∷ codes "c" ∷ codes "d" ∷ codes "e" ∷ codes "f" ∷ []

-- a byte as two of them
abbrev pub byte_at : List ℕ → Result (ℕ × List ℕ) ℕ
byte_at = map_read (λ x. 16 * x.0 + x.1) (then_read (one_of_at hex_digits) (λ high. one_of_at hex_digits))

-- a delimiter: a printable byte other than the space
abbrev pub is_delim : ℕ → Bool
is_delim byte = nat_le 33 byte && nat_le byte 126

abbrev pub delim_at : List ℕ → Result (ℕ × List ℕ) ℕ
delim_at = byte_of_kind is_delim

-- ---- what a dash begins, or an object

abbrev pub is_dash : ℕ → Bool
is_dash byte = byte == 45

abbrev pub arrow : List ℕ
arrow = codes " -> "

-- an object, and a word behind it
abbrev pub object_and : List ℕ → List ℕ → Result (Ref × List ℕ) ℕ
object_and = ended_by object_at

-- what a dash begins, where one comes first, else an object and the arrow
abbrev pub or_object : {V : Type 0} → (Ref → V) → (List ℕ → Result (V × List ℕ) ℕ) → List ℕ → Result (V × List ℕ) ℕ
or_object make dashed = choice is_dash dashed (map_read make (object_and arrow))
