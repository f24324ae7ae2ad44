-- A number, digit by digit.
use Rattle.std.specs.Prelude.{ℕ, ◌+◌, ◌*◌, ◌^◌, ◌&&◌, if◌then◌else◌, Option, Some, None, nat_lt}
use Rattle.std.specs.Char.{digit_value, is_digit}

-- the number with one more digit, below 2^32
abbrev pub pushed : ℕ → ℕ → Option ℕ
pushed value byte = if is_digit byte 10 && nat_lt (value * 10 + digit_value byte) (2 ^ 32) then Some (value * 10 + digit_value byte) else None
