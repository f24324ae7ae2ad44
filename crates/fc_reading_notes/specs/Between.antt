-- Numbers in decimal between two bounds, read from the left.
use Rattle.std.specs.Prelude.{ℕ, zero, suc, ◌+◌, ◌*◌, ◌-◌, ◌==◌, Bool, false, ◌&&◌, ◌||◌, if◌then◌else◌, nat_le, nat_lt, List, [], ◌∷◌, length, Result, Ok, Err}
use Rattle.fc_reading.specs.Readers.{is_decimal}

-- whether a number from `least` to `most` stands from `low` to `high`, or there with some digits more, fewer
-- than so many
unfoldable pub reaches : ℕ → ℕ → ℕ → ℕ → ℕ → Bool
reaches zero least most low high = false
reaches (suc digits) least most low high =
    nat_le low most && (nat_le least high || reaches digits least most (low * 10) (high * 10 + 9))

-- whether a number from `least` to `most` begins with the digits of this one, which isn't 0
abbrev pub is_begun : ℕ → ℕ → ℕ → Bool
is_begun least most value = reaches (suc most) least most value value

-- whether such a number begins with this digit
abbrev pub may_begin : ℕ → ℕ → ℕ → Bool
may_begin least most digit = if digit == 0 then nat_le least 0 else is_begun least most digit

-- whether such a number goes on with this digit
abbrev pub may_go_on : ℕ → ℕ → ℕ → ℕ → Bool
may_go_on least most value byte = nat_lt 0 value && is_begun least most (value * 10 + (byte - 48))

-- no digit follows
abbrev pub ended : ℕ → ℕ → List ℕ → Result (ℕ × List ℕ) ℕ
ended least value bytes = if nat_le least value then Ok (value, bytes) else Err (length bytes)

-- behind a number, its next digits
abbrev pub between_from : ℕ → ℕ → ℕ → List ℕ → Result (ℕ × List ℕ) ℕ
between_from least most value [] = ended least value []
between_from least most value (byte ∷ bytes) =
    if is_decimal byte
    then (if may_go_on least most value byte then between_from least most (value * 10 + (byte - 48)) bytes else Err (suc (length bytes)))
    else ended least value (byte ∷ bytes)

-- a number in decimal, without leading zeros, from `least` to `most`
abbrev pub between_at : ℕ → ℕ → List ℕ → Result (ℕ × List ℕ) ℕ
between_at least most [] = Err 0
between_at least most (byte ∷ bytes) =
    if is_decimal byte && may_begin least most (byte - 48) then between_from least most (byte - 48) bytes else Err (suc (length bytes))
