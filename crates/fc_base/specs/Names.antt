-- Names of volumes, mappings, groups and actors.
use Rattle.std.specs.Prelude.{ℕ, Bool, false, ◌&&◌, ◌||◌, List, [], ◌∷◌, length, nat_le, ◌==◌}
use Rattle.std.specs.List.{list_all}

-- a letter or `_`
abbrev pub starts_name : ℕ → Bool
starts_name b = (nat_le 65 b && nat_le b 90) || (nat_le 97 b && nat_le b 122) || (b == 95)

-- a letter, a digit, `_`, `-` or `.`
abbrev pub continues_name : ℕ → Bool
continues_name b = starts_name b || (nat_le 48 b && nat_le b 57) || (b == 45) || (b == 46)

-- a name has 1 to 63 bytes, each a letter, a digit, `_`, `-` or `.`, and the first is a letter or `_`
abbrev pub is_name : List ℕ → Bool
is_name [] = false
is_name (first ∷ rest) = nat_le (length rest) 62 && (starts_name first && list_all continues_name rest)
