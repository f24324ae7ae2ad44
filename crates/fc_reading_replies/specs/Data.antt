-- The bytes of a read, as runs of equal bytes, read from the left: no run is empty, and no two neighbours have
-- the same byte.
use Rattle.std.specs.Prelude.{ℕ, suc, ◌+◌, ◌*◌, ◌-◌, ◌/◌, ◌%◌, ◌<◌, ◌==◌, Bool, true, not, ◌&&◌, ◌||◌, if◌then◌else◌, nat_le, List, [], ◌∷◌, length, Option, Some, None, Result, Ok, Err, codes}
use Rattle.fc_base.specs.Runs.{IsCanonical}
use Rattle.fc_base.specs.declared.runs.Run.{Run}
use Rattle.fc_reading.specs.Readers.{is_decimal, map_read, one_of_at, the_word, then_read}
use Rattle.fc_reading_notes.specs.Between.{between_at}
use Rattle.fc_reading_notes.specs.Lists.{by_first, chain}
use Rattle.fc_reading_notes.specs.Told.{Each, IsId}

-- bytes as runs
abbrev pub IsRunOfBytes : Run → Type 0
IsRunOfBytes run = IsId run.count × (run.byte < 256)

abbrev pub AreRuns : List Run → Type 0
AreRuns runs = IsCanonical runs × Each IsRunOfBytes runs

-- a hexadecimal digit in lower case, and its value
abbrev pub is_hex : ℕ → Bool
is_hex byte = is_decimal byte || (nat_le 97 byte && nat_le byte 102)

abbrev pub hex_value : ℕ → ℕ
hex_value byte = if is_decimal byte then byte - 48 else byte - 87

-- whether it isn't this one
abbrev pub is_other : Option ℕ → ℕ → Bool
is_other None value = true
is_other (Some excluded) value = not (value == excluded)

-- such a digit, other than an excluded one
abbrev pub digit_at : Option ℕ → List ℕ → Result (ℕ × List ℕ) ℕ
digit_at excluded [] = Err 0
digit_at excluded (byte ∷ bytes) =
    if is_hex byte && is_other excluded (hex_value byte) then Ok (hex_value byte, bytes) else Err (suc (length bytes))

-- the low digit that would make the byte with this high digit the excluded one
abbrev pub excluded_low : Option ℕ → ℕ → Option ℕ
excluded_low None high = None
excluded_low (Some before) high = if before / 16 == high then Some (before % 16) else None

-- a byte as two digits, other than the byte of the run before
abbrev pub byte_of : ℕ × ℕ → ℕ
byte_of x = 16 * x.0 + x.1

abbrev pub byte_at : Option ℕ → List ℕ → Result (ℕ × List ℕ) ℕ
byte_at before = map_read byte_of (then_read (digit_at None) (λ high. digit_at (excluded_low before high)))

-- a run, and whether one more follows
abbrev pub run_ends : List (List ℕ)
run_ends = codes "\n" ∷ codes "," ∷ []

abbrev pub run_of : ℕ × (Unit {0} × (ℕ × ℕ)) → Run × Bool
run_of x = (record { count = x.0; byte = x.1.1.0 }, x.1.1.1 == 1)

abbrev pub run_at : Option ℕ → List ℕ → Result ((Run × Bool) × List ℕ) ℕ
run_at before =
    map_read run_of
    (
    then_read (between_at 1 4294967295)
    (λ count. then_read (the_word (codes "*")) (λ u. then_read (byte_at before) (λ byte. one_of_at run_ends)))
    )

abbrev pub run_next : Option ℕ → Run → Option ℕ
run_next before run = Some run.byte

-- runs, and the end of the line; or none at its end
abbrev pub runs_at : List ℕ → Result (List Run × List ℕ) ℕ
runs_at = chain run_at run_next None

abbrev pub data_at : List ℕ → Result (List Run × List ℕ) ℕ
data_at = by_first 10 (map_read (λ u. []) (the_word (codes "\n"))) runs_at
